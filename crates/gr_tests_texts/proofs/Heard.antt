-- What the caller of a merge knows of it holds after each call: of an item that was taken its tick is the latest, and of what is given nothing waits any more.
use Rattle.std.proofs.Common.{◌≡◌, ℕ, ◌<◌, ◌≤◌, true, false, cond, nat_lt, List, [], ◌∷◌, length, get_or, set, ⊎_elim, sym, ◌∙◌, subst, arith}
use Rattle.std.proofs.lemmas.Bool.{cases_eq}
use Rattle.std.proofs.lemmas.List.{length-set, get_or-set_same, get_or-set_other}
use Rattle.gr_order.specs.declared.item.Item.{Item}
use Rattle.gr_order.specs.Order.{past}
use Rattle.gr_order.specs.Merge.{MergeView, with_item, without_ready, least_horizon}
use Rattle.gr_order.proofs.Placing.{Each, each_weaker, each_placed}
use Rattle.gr_tests_texts.specs.Heard.{IsHeard}

-- a later tick of one publisher lowers none
raised : (xs : List ℕ) (p t q : ℕ) → p < length xs → get_or xs p 0 < t → get_or xs q 0 ≤ get_or (set xs p t) q 0
raised xs p t q inside later = ⊎_elim (λ e. same e) (λ ne. other ne) (cases_eq q p)
  where
    same : q ≡ p → get_or xs q 0 ≤ get_or (set xs p t) q 0
    same e =
        let now : get_or (set xs p t) p 0 ≡ t = get_or-set_same xs p t 0 inside in
        subst (λ i. get_or xs i 0 ≤ get_or (set xs p t) i 0) (sym e) (omega (arith, later, now))

    other : (q ≡ p → ⊥) → get_or xs q 0 ≤ get_or (set xs p t) q 0
    other ne =
        let kept : get_or (set xs p t) q 0 ≡ get_or xs q 0 = get_or-set_other xs p q t 0 ne in
        omega (arith, kept)

-- an item that was taken is the latest of its publisher
with_latest : (m : MergeView) (heard latest : List ℕ) (item : Item) → IsHeard m heard latest → item.publisher < length latest → get_or latest item.publisher 0 < item.tick → IsHeard (with_item m item) heard (set latest item.publisher item.tick)
with_latest m heard latest item is inside later = record {
  horizons = is.horizons;
  places = length-set latest item.publisher item.tick ∙ is.places;
  waiting = each_placed (λ i. i.tick ≤ get_or (set latest item.publisher item.tick) i.publisher 0) item m.waiting own others;
}
  where
    own : item.tick ≤ get_or (set latest item.publisher item.tick) item.publisher 0
    own =
        let now : get_or (set latest item.publisher item.tick) item.publisher 0 ≡ item.tick = get_or-set_same latest item.publisher item.tick 0 inside in
        omega (arith, now)

    others : Each (λ i. i.tick ≤ get_or (set latest item.publisher item.tick) i.publisher 0) m.waiting
    others = each_weaker (λ i. i.tick ≤ get_or latest i.publisher 0) (λ i. i.tick ≤ get_or (set latest item.publisher item.tick) i.publisher 0) (λ i h. omega (arith, h, raised latest item.publisher item.tick i.publisher inside later)) m.waiting is.waiting

pub heard_take : (m n : MergeView) (heard latest : List ℕ) (item : Item) (place : ℕ) → IsHeard m heard latest → n ≡ with_item m item → place ≡ item.publisher → place < length latest → get_or latest place 0 < item.tick → IsHeard n heard (set latest place item.tick)
heard_take m n heard latest item place is with at inside later =
    let within : item.publisher < length latest = omega (arith, inside, at) in
    let above : get_or latest item.publisher 0 < item.tick = subst (λ p. get_or latest p 0 < item.tick) at later in
    subst (λ p. IsHeard n heard (set latest p item.tick)) (sym at) (subst (λ (v : MergeView). IsHeard v heard (set latest item.publisher item.tick)) (sym with) (with_latest m heard latest item is within above))

-- what is past a tick was there before
each_past : (P : Item → Type 0) (tick : ℕ) (items : List Item) → Each P items → Each P (past tick items)
each_past P tick [] h = tt
each_past P tick (i ∷ rest) h = elim (nat_lt tick i.tick) as (λ b. Each P (cond b (i ∷ past tick rest) (past tick rest))) [
  | true ↦ (h.0, each_past P tick rest h.1)
  | false ↦ each_past P tick rest h.1
]

pub heard_ready : (m n : MergeView) (heard latest : List ℕ) → IsHeard m heard latest → n ≡ without_ready m → IsHeard n heard latest
heard_ready m n heard latest is without = subst (λ (v : MergeView). IsHeard v heard latest) (sym without) (record {
  horizons = is.horizons;
  places = is.places;
  waiting = each_past (λ i. i.tick ≤ get_or latest i.publisher 0) (least_horizon m) m.waiting is.waiting;
})
