-- Whatever the calls, what was given and then what waits is all that was taken, rising, and all that was given is up to the least horizon.
use Rattle.std.proofs.Common.{◌≡◌, ◌↔◌, ℕ, ◌<◌, ◌≤◌, false, List, [], ◌∷◌, ◌++◌, inl, inr, ap, sym, ◌∙◌, subst, append_assoc, arith}
use Rattle.std.specs.List.{Contains}
use Rattle.std.proofs.lemmas.Bool.Decides.{nat_tests}
use Rattle.std.proofs.lemmas.List.{append-nil}
use Rattle.std.proofs.lemmas.List.Elements.{Contains-append_left, Contains-append_right, Contains-append_cases}
use Rattle.gr_order.specs.declared.item.Item.{Item}
use Rattle.gr_order.specs.Order.{is_before, IsRising, placed, past}
use Rattle.gr_order.specs.Merge.{MergeView, fresh, least_horizon, MayTake, MayAdvance, with_item, with_horizon, ready_items, without_ready}
use Rattle.gr_order.specs.Law.{Call, take, advance, ready, MayCallAll, after_calls, taken, given, IsMerged}
use Rattle.gr_order.proofs.Placing.{Each, each_weaker, each_append, rising_placed, placed_behind, rising_front, cut_at}
use Rattle.gr_order.proofs.Members.{has_head, has_tail, has_none, has_cases, has_placed, has_up_to, each_from_has, each_up_to}
use Rattle.gr_order.proofs.Horizons.{least_at, least_forward}

-- what was taken, what was given and the merge, at any moment between calls
pub record Follows (all out : List Item) (m : MergeView) : Type 0 where
  pub each : (i : Item) → Contains (out ++ m.waiting) i ↔ Contains all i
  pub rises : IsRising (out ++ m.waiting)
  pub heard : Each (λ i. i.tick ≤ least_horizon m) out

-- at the start nothing was
pub follows_fresh : (n : ℕ) → Follows [] [] (fresh n)
follows_fresh n = record { each = λ i. (λ h. h, λ h. h); rises = tt; heard = tt }

-- what is up to a tick is not behind what is past it
not_before : (tick : ℕ) (a b : Item) → tick < a.tick → b.tick ≤ tick → is_before a b ≡ false
not_before tick a b h k = grind (arith, nat_tests)

-- Each call keeps it

pub follows_take : (all out : List Item) (m : MergeView) (item : Item) → MayTake m item → Follows all out m → Follows (all ++ item ∷ []) out (with_item m item)
follows_take all out m item may f = record { each = each; rises = rises; heard = f.heard }
  where
    low : least_horizon m < item.tick
    low = omega (arith, may.unheard, least_at m.horizons item.publisher may.publisher)

    behind : Each (λ i. is_before item i ≡ false) out
    behind = each_weaker (λ i. i.tick ≤ least_horizon m) (λ i. is_before item i ≡ false) (λ i h. not_before (least_horizon m) item i low h) out f.heard

    place : placed item (out ++ m.waiting) ≡ out ++ placed item m.waiting
    place = placed_behind item out m.waiting behind

    apart : Each (λ i. i.publisher ≡ item.publisher → i.tick < item.tick) (out ++ m.waiting)
    apart = each_append (λ i. i.publisher ≡ item.publisher → i.tick < item.tick) out m.waiting (each_weaker (λ i. i.tick ≤ least_horizon m) (λ i. i.publisher ≡ item.publisher → i.tick < item.tick) (λ i h e. omega (arith, h, low)) out f.heard) may.later

    rises : IsRising (out ++ placed item m.waiting)
    rises = subst (λ (xs : List Item). IsRising xs) place (rising_placed item (out ++ m.waiting) apart f.rises)

    each : (i : Item) → Contains (out ++ placed item m.waiting) i ↔ Contains (all ++ item ∷ []) i
    each i = (there, back)
      where
        there : Contains (out ++ placed item m.waiting) i → Contains (all ++ item ∷ []) i
        there h = elim (has_cases item i (out ++ m.waiting) ((has_placed item i (out ++ m.waiting)).1 (subst (λ (xs : List Item). Contains xs i) (sym place) h))) [
          | inl a ↦ Contains-append_right all (item ∷ []) i (subst (λ (y : Item). Contains (item ∷ []) y) a (has_head item []))
          | inr a ↦ Contains-append_left all (item ∷ []) i ((f.each i).0 a)
        ]

        back : Contains (all ++ item ∷ []) i → Contains (out ++ placed item m.waiting) i
        back h = subst (λ (xs : List Item). Contains xs i) place ((has_placed item i (out ++ m.waiting)).0 (elim (Contains-append_cases all (item ∷ []) i h) [
          | inl a ↦ has_tail item i (out ++ m.waiting) ((f.each i).1 a)
          | inr a ↦ elim (has_cases item i [] a) [
            | inl b ↦ subst (λ (y : Item). Contains (item ∷ (out ++ m.waiting)) y) b (has_head item (out ++ m.waiting))
            | inr b ↦ absurd (has_none i b)
          ]
        ]))

pub follows_advance : (all out : List Item) (m : MergeView) (p h : ℕ) → MayAdvance m p h → Follows all out m → Follows all out (with_horizon m p h)
follows_advance all out m p h may f = record {
  each = f.each;
  rises = f.rises;
  heard = each_weaker (λ i. i.tick ≤ least_horizon m) (λ i. i.tick ≤ least_horizon (with_horizon m p h)) (λ i low. omega (arith, low, least_forward m.horizons p h may.publisher may.forward)) out f.heard;
}

-- what was given, with what is ready behind it, and then the rest
ready_and_rest : (out : List Item) (m : MergeView) → IsRising m.waiting → (out ++ ready_items m) ++ past (least_horizon m) m.waiting ≡ out ++ m.waiting
ready_and_rest out m r = append_assoc out (ready_items m) (past (least_horizon m) m.waiting) ∙ ap (λ xs. out ++ xs) (cut_at (least_horizon m) m.waiting r)

-- the back of a rising list rises
rising_back : (xs ys : List Item) → IsRising (xs ++ ys) → IsRising ys
rising_back [] ys r = r
rising_back (x ∷ xs) ys r = rising_back xs ys r.1

pub follows_ready : (all out : List Item) (m : MergeView) → Follows all out m → Follows all (out ++ ready_items m) (without_ready m)
follows_ready all out m f = record {
  each = λ i. (λ h. (f.each i).0 (subst (λ (xs : List Item). Contains xs i) same h), λ h. subst (λ (xs : List Item). Contains xs i) (sym same) ((f.each i).1 h));
  rises = subst (λ (xs : List Item). IsRising xs) (sym same) f.rises;
  heard = each_append (λ i. i.tick ≤ least_horizon m) out (ready_items m) f.heard (each_up_to (least_horizon m) m.waiting);
}
  where
    same : (out ++ ready_items m) ++ past (least_horizon m) m.waiting ≡ out ++ m.waiting
    same = ready_and_rest out m (rising_back out m.waiting f.rises)

-- and so do any calls
pub follows_all : (calls : List Call) (all out : List Item) (m : MergeView) → MayCallAll m calls → Follows all out m → Follows (all ++ taken calls) (out ++ given m calls) (after_calls m calls)
follows_all [] all out m may f = rw (append-nil all, append-nil out) f
follows_all (take item ∷ calls) all out m may f =
    subst (λ (xs : List Item). Follows xs (out ++ given (with_item m item) calls) (after_calls (with_item m item) calls)) (append_assoc all (item ∷ []) (taken calls)) (follows_all calls (all ++ item ∷ []) out (with_item m item) may.1 (follows_take all out m item may.0 f))
follows_all (advance p h ∷ calls) all out m may f = follows_all calls all out (with_horizon m p h) may.1 (follows_advance all out m p h may.0 f)
follows_all (ready ∷ calls) all out m may f =
    subst (λ (xs : List Item). Follows (all ++ taken calls) xs (after_calls (without_ready m) calls)) (append_assoc out (ready_items m) (given (without_ready m) calls)) (follows_all calls all (out ++ ready_items m) (without_ready m) may.1 (follows_ready all out m f))

-- what was given and what is ready are merged
pub merged : (all out : List Item) (m : MergeView) → Follows all out m → IsMerged all (least_horizon m) (out ++ ready_items m)
merged all out m f = record { each = λ i. (there i, back i); rises = rising_front (out ++ ready_items m) (past (least_horizon m) m.waiting) (subst (λ (xs : List Item). IsRising xs) (sym same) f.rises) }
  where
    same : (out ++ ready_items m) ++ past (least_horizon m) m.waiting ≡ out ++ m.waiting
    same = ready_and_rest out m (rising_back out m.waiting f.rises)

    there : (i : Item) → Contains (out ++ ready_items m) i → Contains all i × (i.tick ≤ least_horizon m)
    there i h = elim (Contains-append_cases out (ready_items m) i h) [
      | inl a ↦ ((f.each i).0 (Contains-append_left out m.waiting i a), each_from_has (λ j. j.tick ≤ least_horizon m) i out f.heard a)
      | inr a ↦ let b = (has_up_to (least_horizon m) i m.waiting).0 a in ((f.each i).0 (Contains-append_right out m.waiting i b.0), b.1)
    ]

    back : (i : Item) → Contains all i × (i.tick ≤ least_horizon m) → Contains (out ++ ready_items m) i
    back i h = elim (Contains-append_cases out m.waiting i ((f.each i).1 h.0)) [
      | inl a ↦ Contains-append_left out (ready_items m) i a
      | inr a ↦ Contains-append_right out (ready_items m) i ((has_up_to (least_horizon m) i m.waiting).1 (a, h.1))
    ]
