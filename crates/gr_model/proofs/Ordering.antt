-- What the holder of a merge keeps: no horizon is past what was reached, and nothing waits past it
use Rattle.std.proofs.Common.{◌≡◌, ◌≢◌, inl, inr, ℕ, zero, suc, ◌+◌, ◌<◌, ◌≤◌, ◌&&◌, Bool, true, false, if◌then◌else◌, List, [], ◌∷◌, ◌++◌, length, map, get_or, set, replicate, refl, sym, ap, ◌∙◌, subst, arith, cond, length-set}
use Rattle.std.specs.Prelude.{nat_eq, nat_lt, nat_le, flat_map}
use Rattle.std.specs.List.{AllByRecursion, filter}
use Rattle.std.proofs.lemmas.Bool.{cases_eq, ltb-true, leb-true, and_parts}
use Rattle.std.proofs.lemmas.List.{get_or-set_same, get_or-set_other, length-replicate}
use Rattle.gr_event.specs.declared.event.Event.{Event}
use Rattle.gr_order.specs.declared.item.Item.{Item}
use Rattle.gr_order.specs.Order.{up_to, past}
use Rattle.gr_order.specs.Merge.{MergeView, least_horizon, MayTake, MayAdvance, with_item, with_horizon, ready_items, without_ready}
use Rattle.gr_order.proofs.Placing.{Each, each_weaker, each_placed}
use Rattle.gr_tree.specs.Walks.{numbers_from}
use Rattle.gr_topo.specs.Topology.{TopologyView, total_of, totals_of}
use Rattle.gr_model.specs.declared.report.Report.{Report}
use Rattle.gr_model.specs.declared.report.Report.TheVariants as line
use Rattle.gr_model.specs.Orders.{Order, IsOrder, Held, Said, event_of, horizon_of, nothing, said_of, got, moved, said, held, with_held, heard, heard_all, fed, rested, ordered_in, ordered_line, ordered, without_ordered, fresh_order, orders_of, IsOrderOf, AreOrdersOf}
use Rattle.gr_model.specs.Text.{IsNamed}

-- what was reached only grows
grown : (reached : List ℕ) (p t q : ℕ) → p < length reached → get_or reached p 0 ≤ t → get_or reached q 0 ≤ get_or (set reached p t) q 0
grown reached p t q lt past = elim (cases_eq p q) [
  | inl e ↦ subst (λ k. get_or reached k 0 ≤ get_or (set reached p t) k 0) e (let same = get_or-set_same reached p t 0 lt in omega (arith, same, past))
  | inr n ↦ let other = get_or-set_other reached p q t 0 (λ e. n (sym e)) in omega (arith, other)
]

-- one event more
pub may_take : (m : MergeView) (reached : List ℕ) (p t : ℕ) (e : Event) → IsOrder m reached → p < length reached → get_or reached p 0 < t → MayTake m (record { publisher = p; tick = t; event = e })
may_take m reached p t e o here past = record {
  publisher = let k = o.count in omega (arith, here, k);
  unheard = let k = o.horizons p in omega (arith, k, past);
  later = each_weaker (λ i. i.tick ≤ get_or reached i.publisher 0) (λ i. i.publisher ≡ p → i.tick < t)
      (λ i low same. let k = ap (λ q. get_or reached q 0) same in omega (arith, low, k, past)) m.waiting o.waiting;
}

pub taken_fits : (m : MergeView) (reached : List ℕ) (item : Item) → IsOrder m reached → item.publisher < length reached → get_or reached item.publisher 0 < item.tick → IsOrder (with_item m item) (set reached item.publisher item.tick)
taken_fits m reached item o lt past = record {
  count = o.count ∙ sym (length-set reached item.publisher item.tick);
  horizons = λ q. let a = o.horizons q in let b = grown reached item.publisher item.tick q lt (omega (arith, past)) in omega (arith, a, b);
  waiting = each_placed (λ i. i.tick ≤ get_or (set reached item.publisher item.tick) i.publisher 0) item m.waiting
      (let same = get_or-set_same reached item.publisher item.tick 0 lt in omega (arith, same))
      (each_weaker (λ i. i.tick ≤ get_or reached i.publisher 0) (λ i. i.tick ≤ get_or (set reached item.publisher item.tick) i.publisher 0)
      (λ i h. let b = grown reached item.publisher item.tick i.publisher lt (omega (arith, past)) in omega (arith, h, b)) m.waiting o.waiting);
}

-- one horizon
pub may_advance : (m : MergeView) (reached : List ℕ) (p t : ℕ) → IsOrder m reached → p < length reached → get_or reached p 0 ≤ t → MayAdvance m p t
may_advance m reached p t o here ahead = record {
  publisher = let k = o.count in omega (arith, here, k);
  forward = let k = o.horizons p in omega (arith, k, ahead);
}

pub moved_fits : (m : MergeView) (reached : List ℕ) (p t : ℕ) → IsOrder m reached → p < length reached → get_or reached p 0 ≤ t → IsOrder (with_horizon m p t) (set reached p t)
moved_fits m reached p t o here ahead = record {
  count = length-set m.horizons p t ∙ (o.count ∙ sym (length-set reached p t));
  horizons = reaches;
  waiting = each_weaker (λ i. i.tick ≤ get_or reached i.publisher 0) (λ i. i.tick ≤ get_or (set reached p t) i.publisher 0)
      (λ i low. let g = grown reached p t i.publisher here ahead in omega (arith, low, g)) m.waiting o.waiting;
}
  where
    known : p < length m.horizons
    known = let k = o.count in omega (arith, here, k)

    reaches : (q : ℕ) → get_or (set m.horizons p t) q 0 ≤ get_or (set reached p t) q 0
    reaches q = elim (cases_eq p q) [
      | inl same ↦ subst (λ k. get_or (set m.horizons p t) k 0 ≤ get_or (set reached p t) k 0) same
          (let a = get_or-set_same m.horizons p t 0 known in let b = get_or-set_same reached p t 0 here in omega (arith, a, b))
      | inr other ↦ let a = get_or-set_other m.horizons p q t 0 (λ k. other (sym k)) in let b = get_or-set_other reached p q t 0 (λ k. other (sym k)) in
          let c = o.horizons q in omega (arith, a, b, c)
    ]

-- what is left past a tick
pub each_past : (P : Item → Type 0) (n : ℕ) (items : List Item) → Each P items → Each P (past n items)
each_past P n [] h = tt
each_past P n (i ∷ rest) h = elim (nat_lt n i.tick) as (λ b. Each P (cond b (i ∷ past n rest) (past n rest))) [
  | true ↦ (h.0, each_past P n rest h.1)
  | false ↦ each_past P n rest h.1
]

pub rested_fits : (m : MergeView) (reached : List ℕ) → IsOrder m reached → IsOrder (without_ready m) reached
rested_fits m reached o = record {
  count = o.count;
  horizons = o.horizons;
  waiting = each_past (λ i. i.tick ≤ get_or reached i.publisher 0) (least_horizon m) m.waiting o.waiting;
}

-- of these tests both hold
both_hold : (reached : List ℕ) (p : ℕ) (b : Bool) → (nat_lt p (length reached) && b) ≡ true → (p < length reached) × (b ≡ true)
both_hold reached p b h = let parts = and_parts (nat_lt p (length reached)) b h in (ltb-true p (length reached) parts.0, parts.1)

-- ---- the lists of a topology stay such

abbrev IsHeldOf : TopologyView → Held → Type 0
IsHeldOf t x = (length x.1 ≡ length t.publishers) × AllByRecursion (λ i. i.publisher < length t.publishers) x.0.waiting

got_of : (t : TopologyView) (m : MergeView) (reached : List ℕ) (p n : ℕ) (e : Event) (c : Bool) → (nat_lt p (length reached) && nat_lt (get_or reached p 0) n) ≡ c → IsHeldOf t (m, reached)
    → IsHeldOf t (if c then (with_item m (record { publisher = p; tick = n; event = e }), set reached p n) else (m, reached))
got_of t m reached p n e true h x =
    let here = (both_hold reached p (nat_lt (get_or reached p 0) n) h).0 in let count = x.0 in
    (length-set reached p n ∙ x.0, each_placed (λ i. i.publisher < length t.publishers) (record { publisher = p; tick = n; event = e }) m.waiting (omega (arith, here, count)) x.1)
got_of t m reached p n e false h x = x

moved_of : (t : TopologyView) (m : MergeView) (reached : List ℕ) (p n : ℕ) (c : Bool) → IsHeldOf t (m, reached) → IsHeldOf t (if c then (with_horizon m p n, set reached p n) else (m, reached))
moved_of t m reached p n true x = (length-set reached p n ∙ x.0, x.1)
moved_of t m reached p n false x = x

said_keeps : (t : TopologyView) (s : ℕ) (x : Held) (l : Said) → IsHeldOf t x → IsHeldOf t (said s x l)
said_keeps t s x (event_of r p n e) h = go (nat_eq r s)
  where
    go : (c : Bool) → IsHeldOf t (if c then got x.0 x.1 p n e else x)
    go true = got_of t x.0 x.1 p n e (nat_lt p (length x.1) && nat_lt (get_or x.1 p 0) n) refl h
    go false = h
said_keeps t s x (horizon_of r p n) h = go (nat_eq r s)
  where
    go : (c : Bool) → IsHeldOf t (if c then moved x.0 x.1 p n else x)
    go true = moved_of t x.0 x.1 p n (nat_lt p (length x.1) && nat_le (get_or x.1 p 0) n) h
    go false = h
said_keeps t s x nothing h = h

heard_keeps : (t : TopologyView) (o : Order) (l : Report) → IsOrderOf t o → IsOrderOf t (heard o l)
heard_keeps t o l h = let x = said_keeps t o.subscriber (held o) (said_of l) (h.count, h.waiting) in record { subscriber = h.subscriber; count = x.0; waiting = x.1 }

all_kept : (t : TopologyView) (o : Order) (ls : List Report) → IsOrderOf t o → IsOrderOf t (heard_all o ls)
all_kept t o [] h = h
all_kept t o (l ∷ ls) h = all_kept t (heard o l) ls (heard_keeps t o l h)

pub fed_keeps : (t : TopologyView) (os : List Order) (ls : List Report) → AreOrdersOf t os → AreOrdersOf t (fed os ls)
fed_keeps t [] ls h = tt
fed_keeps t (o ∷ os) ls h = (all_kept t o ls h.0, fed_keeps t os ls h.1)

pub rested_keeps : (t : TopologyView) (os : List Order) → AreOrdersOf t os → AreOrdersOf t (without_ordered os)
rested_keeps t [] h = tt
rested_keeps t (o ∷ os) h = (
  record {
    subscriber = h.0.subscriber;
    count = h.0.count;
    waiting = each_past (λ i. i.publisher < length t.publishers) (least_horizon o.merge) o.merge.waiting h.0.waiting;
  },
  rested_keeps t os h.1,
)

-- ---- and what they tell has names

each_up : (P : Item → Type 0) (n : ℕ) (items : List Item) → Each P items → Each P (up_to n items)
each_up P n [] h = tt
each_up P n (i ∷ rest) h = elim (nat_le i.tick n) as (λ b. Each P (cond b (i ∷ up_to n rest) (up_to n rest))) [
  | true ↦ (h.0, each_up P n rest h.1)
  | false ↦ each_up P n rest h.1
]

named_items : (t : TopologyView) (s : ℕ) (items : List Item) → s < length t.subscribers → Each (λ i. i.publisher < length t.publishers) items → AllByRecursion (IsNamed t) (map (ordered_line s) items)
named_items t s [] lt h = tt
named_items t s (i ∷ rest) lt h = ((lt, h.0), named_items t s rest lt h.1)

named_both : (t : TopologyView) (xs ys : List Report) → AllByRecursion (IsNamed t) xs → AllByRecursion (IsNamed t) ys → AllByRecursion (IsNamed t) (xs ++ ys)
named_both t [] ys h k = k
named_both t (x ∷ xs) ys h k = (h.0, named_both t xs ys h.1 k)

pub ordered_named : (t : TopologyView) (os : List Order) → AreOrdersOf t os → AllByRecursion (IsNamed t) (ordered os)
ordered_named t [] h = tt
ordered_named t (o ∷ os) h = named_both t (ordered_in o) (ordered os)
    (named_items t o.subscriber (ready_items o.merge) h.0.subscriber (each_up (λ i. i.publisher < length t.publishers) (least_horizon o.merge) o.merge.waiting h.0.waiting)) (ordered_named t os h.1)

-- the lists of a topology at the start
fresh_of : (t : TopologyView) (ss : List ℕ) → AllByRecursion (λ s. s < length t.subscribers) ss → AreOrdersOf t (map (fresh_order (length t.publishers)) ss)
fresh_of t [] h = tt
fresh_of t (s ∷ ss) h = (record { subscriber = h.0; count = length-replicate (length t.publishers) 0; waiting = tt }, fresh_of t ss h.1)

totals_below : (test : ℕ → Bool) (i n m : ℕ) → i + n ≤ m → AllByRecursion (λ s. s < m) (filter test (numbers_from i n))
totals_below test i zero m h = tt
totals_below test i (suc n) m h = elim (test i) as (λ b. AllByRecursion (λ s. s < m) (cond b (i ∷ filter test (numbers_from (suc i) n)) (filter test (numbers_from (suc i) n)))) [
  | true ↦ (omega (arith, h), totals_below test (suc i) n m (omega (arith, h)))
  | false ↦ totals_below test (suc i) n m (omega (arith, h))
]

pub orders_are : (t : TopologyView) → AreOrdersOf t (orders_of t)
orders_are t = go (nat_eq (length t.publishers) 0)
  where
    go : (c : Bool) → AreOrdersOf t (if c then [] else map (fresh_order (length t.publishers)) (totals_of t))
    go true = tt
    go false = fresh_of t (totals_of t) (totals_below (total_of t) 0 (length t.subscribers) (length t.subscribers) (omega arith))
