-- The value stands in its block, at its place behind the start, and one value less stands before each block behind.
use Rattle.std.proofs.Common.{subst, ap, length, sym, ◌≡◌, ◌<◌, ◌+◌, ◌-◌, ◌∙◌, arith, get_or, set, remove, length-set}
use Rattle.std.proofs.lemmas.List.Edits.{length-remove}
use Rattle.gr_gap.specs.Blocks.{values_of, IsRow}
use Rattle.gr_gap.proofs.Rows.{some_start, held_at, in_row, located, block_is, start_past}
use Rattle.gr_gap.proofs.RowEdits.{value_at, taken_out, shrunk_row}
use Rattle.gr_gap.proofs.blocks.Blocks.remove.Goals as goal

pub block_of-block-requires-clause-some : goal.block_of-block-requires-clause-some
block_of-block-requires-clause-some g c =
    let s = c.self.inside in
    let seen : length (values_of s.blocks.items) ≡ length c.args.self.now.items = ap (λ v. length v.items) c.self.view_is in
    let long : length c.as_slice.result.now ≡ length s.starts.items = ap length c.as_slice.ensures.value in
    omega (arith, long, some_start s.starts.items s.blocks.items c.self.invariant.0 (omega (arith, seen, c.requires)))

pub index_mut-requires : goal.index_mut-requires
index_mut-requires g c =
    let s = c.self.inside in
    let long : length c.as_slice.result.now ≡ length s.starts.items = ap length c.as_slice.ensures.value in
    omega (arith, long, c.block_of-block.ensures.within, in_row 0 s.starts.items s.blocks.items c.self.invariant.0, s.blocks.ok.0)

pub unreachable-requires : goal.unreachable-requires
unreachable-requires g c =
    let s = c.self.inside in let k = c.block_of-block.result in let b = c.index_mut.result.now in let i = c.args.i in
    let r = c.index.result.now in
    let seen : length (values_of s.blocks.items) ≡ length c.args.self.now.items = ap (λ v. length v.items) c.self.view_is in
    let found = located k i r c.as_slice.result.now s.starts.items s.blocks.items c.as_slice.ensures.value
    c.self.invariant.0 c.block_of-block.ensures c.index.ensures (omega (arith, seen, c.requires)) in
    let near : i - r < b.len = omega (arith, found.3, held_at k s.blocks.items b found.1 c.index_mut.ensures.value, b.ok.0) in
    cc (c.in_default.ensures.variant.1 near)

pub lower-requires : goal.lower-requires
lower-requires g c = λ j le lt.
    let s = c.self.inside in let k = c.block_of-block.result in
    let seen : length (values_of s.blocks.items) ≡ length c.args.self.now.items = ap (λ v. length v.items) c.self.view_is in
    let found = located k c.args.i c.index.result.now c.as_slice.result.now s.starts.items s.blocks.items c.as_slice.ensures.value
    c.self.invariant.0 c.block_of-block.ensures c.index.ensures (omega (arith, seen, c.requires)) in
    omega (arith, found.3, start_past k j 0 s.starts.items s.blocks.items c.self.invariant.0 (omega (arith, le)) lt)

pub close_empty-requires-clause-row : goal.close_empty-requires-clause-row
close_empty-requires-clause-row g c =
    let s = c.self.inside in let k = c.block_of-block.result in let a = c.index_mut.result.now in let b = c.remove.new.self in
    let bs = s.blocks.items in let ss = s.starts.items in
    let seen : length (values_of bs) ≡ length c.args.self.now.items = ap (λ v. length v.items) c.self.view_is in
    let found = located k c.args.i c.index.result.now c.as_slice.result.now ss bs c.as_slice.ensures.value
    c.self.invariant.0 c.block_of-block.ensures c.index.ensures (omega (arith, seen, c.requires)) in
    let was = held_at k bs a found.1 c.index_mut.ensures.value in
    let wide = block_is k 0 ss bs a c.self.invariant.0 found.1 in
    let cap : a.cap ≡ (get_or bs k a).cap = ap (λ q. q.cap) c.index_mut.ensures.value in
    subst (λ l. IsRow 512 0 l (set bs k b)) (sym c.lower.ensures.items)
    (shrunk_row k ss bs b c.self.invariant.0 found.0 (omega (arith, was, c.in-Some.ensures.len, a.ok.0, b.ok.0))
    (omega (arith, wide.1, cap, c.remove.ensures.capacity)))

pub close_empty-requires-clause-within : goal.close_empty-requires-clause-within
close_empty-requires-clause-within g c =
    let s = c.self.inside in
    let long : length c.as_slice.result.now ≡ length s.starts.items = ap length c.as_slice.ensures.value in
    omega (arith, long, c.block_of-block.ensures.within, c.lower.ensures.len)

pub invariant_of-self : goal.invariant_of-self
invariant_of-self g c =
    let s = c.self.inside in let k = c.block_of-block.result in let a = c.index_mut.result.now in let b = c.remove.new.self in
    let bs = s.blocks.items in let ss = s.starts.items in let i = c.args.i in let r = c.index.result.now in
    let up = c.close_empty.ensures in
    let seen : length (values_of bs) ≡ length c.args.self.now.items = ap (λ v. length v.items) c.self.view_is in
    let lt : i < length (values_of bs) = omega (arith, seen, c.requires) in
    let found = located k i r c.as_slice.result.now ss bs c.as_slice.ensures.value
    c.self.invariant.0 c.block_of-block.ensures c.index.ensures lt in
    let left : b.items ≡ remove (get_or bs k a).items (i - r) =
    c.in-Some.ensures.items ∙ ap (λ q. remove q.items (i - r)) c.index_mut.ensures.value in
    let items : values_of c.close_empty.new.blocks.items ≡ remove (values_of bs) i =
    up.row.values ∙ taken_out k (i - r) i bs a b found.2 found.3 left in
    let all : length (values_of c.close_empty.new.blocks.items) + 1 ≡ length (values_of bs) =
    ap (λ l. length l + 1) items ∙ length-remove (values_of bs) i lt in
    let many : length c.close_empty.new.blocks.items ≡ length bs = up.row.count ∙ length-set bs k b in (
      up.row.row,
      omega (arith, all, c.self.invariant.1),
      omega (arith, many, up.capacity, c.lower.ensures.capacity, c.self.invariant.2),
      omega (arith, many, c.self.invariant.3),
    )

pub returns-clause-value : goal.returns-clause-value
returns-clause-value g c =
    let s = c.self.inside in let k = c.block_of-block.result in let b = c.index_mut.result.now in let i = c.args.i in
    let r = c.index.result.now in let x = c.in-Some.value in
    let seen : length (values_of s.blocks.items) ≡ length c.args.self.now.items = ap (λ v. length v.items) c.self.view_is in
    let found = located k i r c.as_slice.result.now s.starts.items s.blocks.items c.as_slice.ensures.value
    c.self.invariant.0 c.block_of-block.ensures c.index.ensures (omega (arith, seen, c.requires)) in
    c.in-Some.ensures.value ∙ ap (λ q. get_or q.items (i - r) x) c.index_mut.ensures.value
    ∙ sym (value_at k (i - r) i s.blocks.items b x found.2 found.3) ∙ ap (λ v. get_or v.items i x) c.self.view_is

pub returns-clause-items : goal.returns-clause-items
returns-clause-items g c =
    let s = c.self.inside in let k = c.block_of-block.result in let a = c.index_mut.result.now in let i = c.args.i in
    let r = c.index.result.now in let bs = s.blocks.items in
    let seen : length (values_of bs) ≡ length c.args.self.now.items = ap (λ v. length v.items) c.self.view_is in
    let found = located k i r c.as_slice.result.now s.starts.items bs c.as_slice.ensures.value
    c.self.invariant.0 c.block_of-block.ensures c.index.ensures (omega (arith, seen, c.requires)) in
    let left : c.remove.new.self.items ≡ remove (get_or bs k a).items (i - r) =
    c.in-Some.ensures.items ∙ ap (λ q. remove q.items (i - r)) c.index_mut.ensures.value in
    c.close_empty.ensures.row.values ∙ taken_out k (i - r) i bs a c.remove.new.self found.2 found.3 left
    ∙ ap (λ v. remove v.items i) c.self.view_is
