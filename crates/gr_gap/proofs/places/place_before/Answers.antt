-- If all blocks were full, there would be no room.
use Rattle.std.proofs.Common.{subst, ◌-◌, ◌<◌, ◌≤◌, length, inl, inr, sym, arith}
use Rattle.gr_gap.specs.Blocks.{held}
use Rattle.gr_gap.proofs.Rows.{held_at}
use Rattle.gr_gap.proofs.RowEdits.{all_full}
use Rattle.gr_gap.proofs.Changes.{first_or}
use Rattle.gr_gap.proofs.places.place_before.Goals as goal

pub returns-then-len-lt-BLOCK-clause-place : goal.returns-then-len-lt-BLOCK-clause-place
returns-then-len-lt-BLOCK-clause-place g c =
    let bs = c.args.blocks.now.items in let k = c.loop-block.block - 1 in let b = c.index.result.now in
    let inside : k < length bs = omega (arith, c.loop-block.invariant.within, c.requires.within, c.loop-block-test.true) in
    omega (arith, held_at k bs b inside c.index.ensures, c.len.ensures, b.ok.0, c.if-len-lt-BLOCK.true)

pub loop-block-preserved : goal.loop-block-preserved
loop-block-preserved g c =
    let bs = c.args.blocks.now.items in let p = c.loop-block.block - 1 in let b = c.index.result.now in
    let so = c.loop-block.invariant in
    let inside : p < length bs = omega (arith, so.within, c.requires.within, c.loop-block-test.true) in
    let here : 512 ≤ held p bs = omega (arith, held_at p bs b inside c.index.ensures, c.len.ensures, b.ok.0, c.if-len-lt-BLOCK.false) in
    record {
      within = omega (arith, so.within);
      full = λ k le lt. elim (first_or p k le) [
        | inl e ↦ subst (λ j. 512 ≤ held j bs) (sym e) here
        | inr more ↦ so.full k (omega (arith, more)) lt
      ];
    }

pub unreachable-requires : goal.unreachable-requires
unreachable-requires g c =
    let bs = c.args.blocks.now.items in
    let all = all_full bs (λ k lt. c.loop-block.invariant.full k (omega (arith, c.loop-block-test.false)) lt) in
    omega (arith, all, c.requires.room)
