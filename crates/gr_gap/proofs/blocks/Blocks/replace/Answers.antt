-- The value stands in its block, at its place behind the start, and so does the one that takes its place.
use Rattle.std.proofs.Common.{ap, length, sym, ◌≡◌, ◌-◌, ◌∙◌, arith, get_or, set, length-set}
use Rattle.std_alloc.specs.VecDeque.{deque_with_item}
use Rattle.gr_gap.specs.Blocks.{values_of}
use Rattle.gr_gap.proofs.Rows.{some_start, held_at, in_row, located, block_is}
use Rattle.gr_gap.proofs.RowEdits.{value_at, exchanged, same_row}
use Rattle.gr_gap.proofs.blocks.Blocks.replace.Goals as goal

pub block_of-block-requires-clause-some : goal.block_of-block-requires-clause-some
block_of-block-requires-clause-some g c =
    let s = c.self.inside in
    let seen : length (values_of s.blocks.items) ≡ length c.args.self.now.items = ap (λ v. length v.items) c.self.view_is in
    let long : length c.as_slice.result.now ≡ length s.starts.items = ap length c.as_slice.ensures.value in
    omega (arith, long, some_start s.starts.items s.blocks.items c.self.invariant.0 (omega (arith, seen, c.requires)))

pub index_mut-requires : goal.index_mut-requires
index_mut-requires g c =
    let s = c.self.inside in
    let long : length c.as_slice.result.now ≡ length s.starts.items = ap length c.as_slice.ensures.value in
    omega (arith, long, c.block_of-block.ensures.within, in_row 0 s.starts.items s.blocks.items c.self.invariant.0, s.blocks.ok.0)

pub index_mut-requires-2 : goal.index_mut-requires-2
index_mut-requires-2 g c =
    let s = c.self.inside in let k = c.block_of-block.result in let b = c.index_mut.result.now in
    let seen : length (values_of s.blocks.items) ≡ length c.args.self.now.items = ap (λ v. length v.items) c.self.view_is in
    let found = located k c.args.i c.index.result.now c.as_slice.result.now s.starts.items s.blocks.items c.as_slice.ensures.value
    c.self.invariant.0 c.block_of-block.ensures c.index.ensures (omega (arith, seen, c.requires)) in
    omega (arith, found.3, held_at k s.blocks.items b found.1 c.index_mut.ensures.value, b.ok.0)

pub invariant_of-self : goal.invariant_of-self
invariant_of-self g c =
    let s = c.self.inside in let k = c.block_of-block.result in let i = c.args.i in let a = c.index_mut.result.now in
    let r = c.index.result.now in let w = c.replace.new.dest in let bs = s.blocks.items in
    let b = deque_with_item a (i - r) w in
    let seen : length (values_of bs) ≡ length c.args.self.now.items = ap (λ v. length v.items) c.self.view_is in
    let found = located k i r c.as_slice.result.now s.starts.items bs c.as_slice.ensures.value
    c.self.invariant.0 c.block_of-block.ensures c.index.ensures (omega (arith, seen, c.requires)) in
    let long : length b.items ≡ length a.items = length-set a.items (i - r) w in
    let was = held_at k bs a found.1 c.index_mut.ensures.value in
    let wide = block_is k 0 s.starts.items bs a c.self.invariant.0 found.1 in
    let cap : a.cap ≡ (get_or bs k a).cap = ap (λ q. q.cap) c.index_mut.ensures.value in
    let all : length (values_of (set bs k b)) ≡ length (values_of bs) =
    ap length (exchanged k (i - r) i bs a b w found.2 found.3 (ap (λ q. set q.items (i - r) w) c.index_mut.ensures.value))
    ∙ length-set (values_of bs) i w in
    let many : length (set bs k b) ≡ length bs = length-set bs k b in (
      same_row k 0 s.starts.items bs b c.self.invariant.0 found.1 (omega (arith, long, was)) (omega (arith, wide.1, cap)),
      c.self.invariant.1 ∙ sym all,
      omega (arith, many, c.self.invariant.2),
      omega (arith, many, c.self.invariant.3),
    )

pub returns-clause-value : goal.returns-clause-value
returns-clause-value g c =
    let s = c.self.inside in let k = c.block_of-block.result in let i = c.args.i in let b = c.index_mut.result.now in
    let r = c.index.result.now in let x = c.replace.result in
    let seen : length (values_of s.blocks.items) ≡ length c.args.self.now.items = ap (λ v. length v.items) c.self.view_is in
    let found = located k i r c.as_slice.result.now s.starts.items s.blocks.items c.as_slice.ensures.value
    c.self.invariant.0 c.block_of-block.ensures c.index.ensures (omega (arith, seen, c.requires)) in
    let read : x ≡ get_or b.items (i - r) x =
    c.replace.ensures.value ∙ c.index_mut-2.ensures.value ∙ ap (λ d. get_or b.items (i - r) d) (sym c.replace.ensures.value) in
    read ∙ ap (λ q. get_or q.items (i - r) x) c.index_mut.ensures.value
    ∙ sym (value_at k (i - r) i s.blocks.items b x found.2 found.3) ∙ ap (λ v. get_or v.items i x) c.self.view_is

pub returns-clause-items : goal.returns-clause-items
returns-clause-items g c =
    let s = c.self.inside in let k = c.block_of-block.result in let i = c.args.i in let a = c.index_mut.result.now in
    let r = c.index.result.now in let w = c.replace.new.dest in
    let seen : length (values_of s.blocks.items) ≡ length c.args.self.now.items = ap (λ v. length v.items) c.self.view_is in
    let found = located k i r c.as_slice.result.now s.starts.items s.blocks.items c.as_slice.ensures.value
    c.self.invariant.0 c.block_of-block.ensures c.index.ensures (omega (arith, seen, c.requires)) in
    exchanged k (i - r) i s.blocks.items a (deque_with_item a (i - r) w) c.args.value found.2 found.3
    (ap (λ q. set q.items (i - r) w) c.index_mut.ensures.value
    ∙ ap (λ x. set (get_or s.blocks.items k a).items (i - r) x) c.replace.ensures.after)
    ∙ ap (λ v. set v.items i c.args.value) c.self.view_is
