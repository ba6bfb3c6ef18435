-- The next block has a value, and the block a place for it.
use Rattle.std.proofs.Common.{subst, ◌≡◌, ◌+◌, ◌<◌, ◌∷◌, ◌++◌, [], length, get_or, set, sym, ap, ◌∙◌, arith, append_assoc, length-set}
use Rattle.std.proofs.lemmas.List.{length_push, set_comm}
use Rattle.gr_gap.specs.Blocks.{held, Rearranged}
use Rattle.gr_gap.proofs.Rows.{held_at, held_set, held_other, in_row, start_is, start_low, block_is, before_step}
use Rattle.gr_gap.proofs.Changes.{read_is}
use Rattle.gr_gap.proofs.Neighbours.{apart, shared_at}
use Rattle.gr_gap.proofs.moves.pass_back.Goals as goal

pub index_mut-requires : goal.index_mut-requires
index_mut-requires g c =
    let q = c.args.blocks.now in
    omega (arith, in_row 0 c.args.starts.now.items q.items c.requires.row, c.requires.next, q.ok.0)

pub unreachable-requires : goal.unreachable-requires
unreachable-requires g c =
    let q = c.args.blocks.now in let k = c.args.block in let z = c.index_mut.result.now in
    let some = in_row 0 c.args.starts.now.items q.items c.requires.row in
    let was : held (k + 1) q.items ≡ length z.items =
    held_at (k + 1) q.items z (omega (arith, some, c.requires.next)) c.index_mut.ensures.value in
    omega (arith, was, c.requires.some, c.in_default.ensures.cases.0, z.ok.0)

pub index_mut-requires-2 : goal.index_mut-requires-2
index_mut-requires-2 g c =
    let q = c.args.blocks.now in
    omega (arith, in_row 0 c.args.starts.now.items q.items c.requires.row, c.requires.next, q.ok.0)

pub push_back_reserved-requires : goal.push_back_reserved-requires
push_back_reserved-requires g c =
    let q = c.args.blocks.now in let k = c.args.block in let d = c.pop_front.new.self in let a = c.index_mut-2.result.now in
    let inside : k + 1 < length q.items =
    omega (arith, in_row 0 c.args.starts.now.items q.items c.requires.row, c.requires.next) in
    let first : a ≡ get_or q.items k a = c.index_mut-2.ensures.value ∙ apart (k + 1) k q.items d a (λ e. omega (arith, e)) in
    let was : held k q.items ≡ length a.items = held_at k q.items a (omega (arith, inside)) first in
    let wide = block_is k 0 c.args.starts.now.items q.items a c.requires.row (omega (arith, inside)) in
    let cap : a.cap ≡ (get_or q.items k a).cap = ap (λ b. b.cap) first in
    omega (arith, was, c.requires.room, wide.1, cap, a.ok.0)

pub overflow_add-index_mut : goal.overflow_add-index_mut
overflow_add-index_mut g c =
    let q = c.args.blocks.now in let k = c.args.block in let ss = c.args.starts.now.items in let r = c.index_mut-3.result.now in
    let read : r ≡ get_or ss (k + 1) 0 = read_is (k + 1) ss r c.requires.next c.index_mut-3.ensures.value in
    omega (arith, read, start_low (k + 1) 0 ss q.items c.requires.row, c.requires.fits)

pub returns-clause-row : goal.returns-clause-row
returns-clause-row g c =
    let q = c.args.blocks.now in let k = c.args.block in let ss = c.args.starts.now.items in
    let z = c.index_mut.result.now in let d = c.pop_front.new.self in let a = c.index_mut-2.result.now in
    let b = c.push_back_reserved.new.self in let v = c.in-Some.value in let r = c.index_mut-3.result.now in
    let inside : k + 1 < length q.items = omega (arith, in_row 0 ss q.items c.requires.row, c.requires.next) in
    let first : a ≡ get_or q.items k a = c.index_mut-2.ensures.value ∙ apart (k + 1) k q.items d a (λ e. omega (arith, e)) in
    let was : held k q.items ≡ length a.items = held_at k q.items a (omega (arith, inside)) first in
    let was_next : held (k + 1) q.items ≡ length z.items = held_at (k + 1) q.items z inside c.index_mut.ensures.value in
    let full = block_is (k + 1) 0 ss q.items z c.requires.row inside in
    let less : length z.items ≡ length d.items + 1 = ap length c.in-Some.ensures.items ∙ omega arith in
    let more : length b.items ≡ length a.items + 1 = ap length c.push_back_reserved.ensures.items ∙ length_push a.items v in
    let same : a.items ++ z.items ≡ b.items ++ d.items =
    ap (λ l. a.items ++ l) c.in-Some.ensures.items ∙ sym (append_assoc a.items (v ∷ []) d.items)
    ∙ ap (λ l. l ++ d.items) (sym c.push_back_reserved.ensures.items) in
    let read : r ≡ get_or ss (k + 1) 0 = read_is (k + 1) ss r c.requires.next c.index_mut-3.ensures.value in
    let at = start_is k 0 ss q.items c.requires.row (omega (arith, c.requires.next)) in
    let next = start_is (k + 1) 0 ss q.items c.requires.row c.requires.next in
    let on : r + 1 ≡ get_or ss k 0 + length b.items = omega (arith, read, at, next, before_step k q.items, was, more) in
    subst (λ l. Rearranged 512 q.items (set ss (k + 1) (r + 1)) l)
    (sym (set_comm q.items (k + 1) k d b (λ e. omega (arith, e))))
    (shared_at k (r + 1) ss q.items a z b d c.requires.row first same (omega (arith, more, was, c.requires.room))
    (omega (arith, less, was_next, full.0)) c.push_back_reserved.ensures.capacity c.pop_front.ensures.capacity on
    c.requires.next c.index_mut.ensures.value)

pub returns-clause-less : goal.returns-clause-less
returns-clause-less g c =
    let q = c.args.blocks.now in let k = c.args.block in let z = c.index_mut.result.now in let d = c.pop_front.new.self in
    let b = c.push_back_reserved.new.self in
    let inside : k + 1 < length q.items =
    omega (arith, in_row 0 c.args.starts.now.items q.items c.requires.row, c.requires.next) in
    let was : held (k + 1) q.items ≡ length z.items = held_at (k + 1) q.items z inside c.index_mut.ensures.value in
    let less : length z.items ≡ length d.items + 1 = ap length c.in-Some.ensures.items ∙ omega arith in
    let now : held (k + 1) (set (set q.items (k + 1) d) k b) ≡ length d.items =
    held_other (k + 1) k (set q.items (k + 1) d) b (λ e. omega (arith, e)) ∙ held_set (k + 1) q.items d inside in
    omega (arith, was, less, now)

pub returns-clause-more : goal.returns-clause-more
returns-clause-more g c =
    let q = c.args.blocks.now in let k = c.args.block in let d = c.pop_front.new.self in let a = c.index_mut-2.result.now in
    let b = c.push_back_reserved.new.self in
    let inside : k + 1 < length q.items =
    omega (arith, in_row 0 c.args.starts.now.items q.items c.requires.row, c.requires.next) in
    let first : a ≡ get_or q.items k a = c.index_mut-2.ensures.value ∙ apart (k + 1) k q.items d a (λ e. omega (arith, e)) in
    let was : held k q.items ≡ length a.items = held_at k q.items a (omega (arith, inside)) first in
    let more : length b.items ≡ length a.items + 1 = ap length c.push_back_reserved.ensures.items ∙ length_push a.items c.in-Some.value in
    let now : held k (set (set q.items (k + 1) d) k b) ≡ length b.items =
    held_set k (set q.items (k + 1) d) b (omega (arith, inside, length-set q.items (k + 1) d)) in
    omega (arith, was, more, now)

pub returns-clause-others : goal.returns-clause-others
returns-clause-others g c = λ j lt.
    let q = c.args.blocks.now in let k = c.args.block in let d = c.pop_front.new.self in
    held_other j k (set q.items (k + 1) d) c.push_back_reserved.new.self (λ e. omega (arith, e, lt))
    ∙ held_other j (k + 1) q.items d (λ e. omega (arith, e, lt))
