-- The value stands in its block, at its place behind the start.
use Rattle.std.proofs.Common.{ap, length, sym, ◌≡◌, ◌-◌, ◌∙◌, arith, get_or}
use Rattle.gr_gap.specs.Blocks.{values_of}
use Rattle.gr_gap.proofs.Rows.{some_start, held_at, in_row, located}
use Rattle.gr_gap.proofs.RowEdits.{value_at}
use Rattle.gr_gap.proofs.blocks.Blocks.get.Goals as goal

pub block_of-block-requires-clause-some : goal.block_of-block-requires-clause-some
block_of-block-requires-clause-some g c =
    let s = c.self.inside in
    let seen : length (values_of s.blocks.items) ≡ length c.args.self.now.items = ap (λ v. length v.items) c.self.view_is in
    let long : length c.as_slice.result.now ≡ length s.starts.items = ap length c.as_slice.ensures.value in
    omega (arith, long, some_start s.starts.items s.blocks.items c.self.invariant.0 (omega (arith, seen, c.requires)))

pub index-requires : goal.index-requires
index-requires g c =
    let s = c.self.inside in
    let long : length c.as_slice.result.now ≡ length s.starts.items = ap length c.as_slice.ensures.value in
    omega (arith, long, c.block_of-block.ensures.within, in_row 0 s.starts.items s.blocks.items c.self.invariant.0, s.blocks.ok.0)

pub index-requires-3 : goal.index-requires-3
index-requires-3 g c =
    let s = c.self.inside in let k = c.block_of-block.result in let b = c.index.result.now in
    let seen : length (values_of s.blocks.items) ≡ length c.args.self.now.items = ap (λ v. length v.items) c.self.view_is in
    let found = located k c.args.i c.index-2.result.now c.as_slice.result.now s.starts.items s.blocks.items c.as_slice.ensures.value
    c.self.invariant.0 c.block_of-block.ensures c.index-2.ensures (omega (arith, seen, c.requires)) in
    omega (arith, found.3, held_at k s.blocks.items b found.1 c.index.ensures, b.ok.0)

pub returns : goal.returns
returns g c =
    let s = c.self.inside in let k = c.block_of-block.result in let b = c.index.result.now in let i = c.args.i in
    let r = c.index-2.result.now in let x = c.index-3.result.now in
    let seen : length (values_of s.blocks.items) ≡ length c.args.self.now.items = ap (λ v. length v.items) c.self.view_is in
    let found = located k i r c.as_slice.result.now s.starts.items s.blocks.items c.as_slice.ensures.value
    c.self.invariant.0 c.block_of-block.ensures c.index-2.ensures (omega (arith, seen, c.requires)) in
    c.index-3.ensures ∙ ap (λ q. get_or q.items (i - r) x) c.index.ensures
    ∙ sym (value_at k (i - r) i s.blocks.items b x found.2 found.3) ∙ ap (λ v. get_or v.items i x) c.self.view_is
