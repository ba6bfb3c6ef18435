-- A block that is passed is full.
use Rattle.std.proofs.Common.{subst, ◌<◌, ◌≤◌, length, inl, inr, arith}
use Rattle.gr_gap.specs.Blocks.{held}
use Rattle.gr_gap.proofs.Rows.{held_at}
use Rattle.gr_gap.proofs.Changes.{first_or}
use Rattle.gr_gap.proofs.places.place_behind.Goals as goal

pub loop-block-preserved : goal.loop-block-preserved
loop-block-preserved g c =
    let q = c.args.blocks.now in let p = c.loop-block.block in let b = c.index.result.now in
    let so = c.loop-block.invariant in
    let inside : p < length q.items = omega (arith, c.loop-block-test.true, c.len.ensures, q.ok.0) in
    let here : 512 ≤ held p q.items =
    omega (arith, held_at p q.items b inside c.index.ensures, c.len-in-loop-block.ensures, b.ok.0, c.if-len-ge-BLOCK.true) in
    record {
      within = omega (arith, so.within);
      end = omega (arith, inside);
      full = λ k le lt. elim (first_or k p (omega (arith, lt))) [
        | inl e ↦ subst (λ j. 512 ≤ held j q.items) e here
        | inr less ↦ so.full k le less
      ];
    }

pub returns-else-len-ge-BLOCK-clause-place : goal.returns-else-len-ge-BLOCK-clause-place
returns-else-len-ge-BLOCK-clause-place g c = λ lt.
    let b = c.index.result.now in
    omega (arith, held_at c.loop-block.block c.args.blocks.now.items b lt c.index.ensures, c.len-in-loop-block.ensures, b.ok.0, c.if-len-ge-BLOCK.false)
