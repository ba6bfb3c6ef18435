-- The block has a value, and the next a place for it.
use Rattle.std.proofs.Common.{◌≡◌, ◌+◌, ◌-◌, ◌<◌, ◌∷◌, ◌++◌, [], length, get_or, set, sym, ap, ◌∙◌, arith, append_assoc, length-set}
use Rattle.gr_gap.specs.Blocks.{held}
use Rattle.std.proofs.lemmas.List.{length_push}
use Rattle.gr_gap.proofs.Rows.{held_at, held_set, held_other, in_row, start_is, block_is, before_step}
use Rattle.gr_gap.proofs.Changes.{read_is}
use Rattle.gr_gap.proofs.Neighbours.{apart, shared_at}
use Rattle.gr_gap.proofs.moves.pass_on.Goals as goal

pub index_mut-requires : goal.index_mut-requires
index_mut-requires g c =
    let q = c.args.blocks.now in
    omega (arith, in_row 0 c.args.starts.now.items q.items c.requires.row, c.requires.next, q.ok.0)

pub unreachable-requires : goal.unreachable-requires
unreachable-requires g c =
    let q = c.args.blocks.now in let a = c.index_mut.result.now in
    let some = in_row 0 c.args.starts.now.items q.items c.requires.row in
    let was : held c.args.block q.items ≡ length a.items =
    held_at c.args.block q.items a (omega (arith, some, c.requires.next)) c.index_mut.ensures.value in
    omega (arith, was, c.requires.some, c.in_default.ensures.cases, a.ok.0)

pub index_mut-requires-2 : goal.index_mut-requires-2
index_mut-requires-2 g c =
    let q = c.args.blocks.now in
    omega (arith, in_row 0 c.args.starts.now.items q.items c.requires.row, c.requires.next, q.ok.0)

pub push_front_reserved-requires : goal.push_front_reserved-requires
push_front_reserved-requires g c =
    let q = c.args.blocks.now in let k = c.args.block in let b = c.pop_back.new.self in let z = c.index_mut-2.result.now in
    let inside : k + 1 < length q.items =
    omega (arith, in_row 0 c.args.starts.now.items q.items c.requires.row, c.requires.next) in
    let second : z ≡ get_or q.items (k + 1) z = c.index_mut-2.ensures.value ∙ apart k (k + 1) q.items b z (λ e. omega (arith, e)) in
    let was : held (k + 1) q.items ≡ length z.items = held_at (k + 1) q.items z inside second in
    let wide = block_is (k + 1) 0 c.args.starts.now.items q.items z c.requires.row inside in
    let cap : z.cap ≡ (get_or q.items (k + 1) z).cap = ap (λ d. d.cap) second in
    omega (arith, was, c.requires.room, wide.1, cap, z.ok.0)

pub overflow_sub-index_mut : goal.overflow_sub-index_mut
overflow_sub-index_mut g c =
    let q = c.args.blocks.now in let k = c.args.block in let ss = c.args.starts.now.items in let r = c.index_mut-3.result.now in
    let read : r ≡ get_or ss (k + 1) 0 = read_is (k + 1) ss r c.requires.next c.index_mut-3.ensures.value in
    let next = start_is (k + 1) 0 ss q.items c.requires.row c.requires.next in
    omega (arith, read, next, before_step k q.items, c.requires.some)

pub returns-clause-row : goal.returns-clause-row
returns-clause-row g c =
    let q = c.args.blocks.now in let k = c.args.block in let ss = c.args.starts.now.items in
    let a = c.index_mut.result.now in let b = c.pop_back.new.self in let z = c.index_mut-2.result.now in
    let d = c.push_front_reserved.new.self in let v = c.in-Some.value in let r = c.index_mut-3.result.now in
    let inside : k + 1 < length q.items = omega (arith, in_row 0 ss q.items c.requires.row, c.requires.next) in
    let second : z ≡ get_or q.items (k + 1) z = c.index_mut-2.ensures.value ∙ apart k (k + 1) q.items b z (λ e. omega (arith, e)) in
    let was : held k q.items ≡ length a.items = held_at k q.items a (omega (arith, inside)) c.index_mut.ensures.value in
    let was_next : held (k + 1) q.items ≡ length z.items = held_at (k + 1) q.items z inside second in
    let full = block_is k 0 ss q.items a c.requires.row (omega (arith, inside)) in
    let less : length a.items ≡ length b.items + 1 = ap length c.in-Some.ensures.items ∙ length_push b.items v in
    let more : length d.items ≡ length z.items + 1 = ap length c.push_front_reserved.ensures.items ∙ omega arith in
    let same : a.items ++ z.items ≡ b.items ++ d.items =
    ap (λ l. l ++ z.items) c.in-Some.ensures.items ∙ append_assoc b.items (v ∷ []) z.items
    ∙ ap (λ l. b.items ++ l) (sym c.push_front_reserved.ensures.items) in
    let read : r ≡ get_or ss (k + 1) 0 = read_is (k + 1) ss r c.requires.next c.index_mut-3.ensures.value in
    let at = start_is k 0 ss q.items c.requires.row (omega (arith, c.requires.next)) in
    let next = start_is (k + 1) 0 ss q.items c.requires.row c.requires.next in
    let on : r - 1 ≡ get_or ss k 0 + length b.items = omega (arith, read, at, next, before_step k q.items, was, less) in
    shared_at k (r - 1) ss q.items a z b d c.requires.row c.index_mut.ensures.value same (omega (arith, full.0, was, less))
    (omega (arith, more, was_next, c.requires.room)) c.pop_back.ensures.capacity c.push_front_reserved.ensures.capacity on
    c.requires.next second

pub returns-clause-less : goal.returns-clause-less
returns-clause-less g c =
    let q = c.args.blocks.now in let k = c.args.block in let a = c.index_mut.result.now in let b = c.pop_back.new.self in
    let d = c.push_front_reserved.new.self in
    let inside : k + 1 < length q.items =
    omega (arith, in_row 0 c.args.starts.now.items q.items c.requires.row, c.requires.next) in
    let was : held k q.items ≡ length a.items = held_at k q.items a (omega (arith, inside)) c.index_mut.ensures.value in
    let less : length a.items ≡ length b.items + 1 = ap length c.in-Some.ensures.items ∙ length_push b.items c.in-Some.value in
    let now : held k (set (set q.items k b) (k + 1) d) ≡ length b.items =
    held_other k (k + 1) (set q.items k b) d (λ e. omega (arith, e)) ∙ held_set k q.items b (omega (arith, inside)) in
    omega (arith, was, less, now)

pub returns-clause-more : goal.returns-clause-more
returns-clause-more g c =
    let q = c.args.blocks.now in let k = c.args.block in let b = c.pop_back.new.self in let z = c.index_mut-2.result.now in
    let d = c.push_front_reserved.new.self in
    let inside : k + 1 < length q.items =
    omega (arith, in_row 0 c.args.starts.now.items q.items c.requires.row, c.requires.next) in
    let second : z ≡ get_or q.items (k + 1) z = c.index_mut-2.ensures.value ∙ apart k (k + 1) q.items b z (λ e. omega (arith, e)) in
    let was : held (k + 1) q.items ≡ length z.items = held_at (k + 1) q.items z inside second in
    let more : length d.items ≡ length z.items + 1 = ap length c.push_front_reserved.ensures.items ∙ omega arith in
    let now : held (k + 1) (set (set q.items k b) (k + 1) d) ≡ length d.items =
    held_set (k + 1) (set q.items k b) d (omega (arith, inside, length-set q.items k b)) in
    omega (arith, was, more, now)

pub returns-clause-others : goal.returns-clause-others
returns-clause-others g c = λ j lt.
    let q = c.args.blocks.now in let k = c.args.block in let b = c.pop_back.new.self in
    held_other j (k + 1) (set q.items k b) c.push_front_reserved.new.self (λ e. omega (arith, e, lt))
    ∙ held_other j k q.items b (λ e. omega (arith, e, lt))
