-- What the index answers is what each filter answers
use Rattle.std.proofs.Common.{◌≡◌, ℕ, zero, suc, ◌+◌, ◌<◌, ◌≤◌, Bool, true, false, cond, ◌||◌, List, [], ◌∷◌, ◌++◌, length, Option, Some, None, refl, sym, ap, ◌∙◌, subst, arith, inl, inr}
use Rattle.std.specs.List.{AllByRecursion, filter, list_any, slice_get}
use Rattle.std.specs.List.Sorted.{IsPermutation, IsNonDecreasing, IsSorted}
use Rattle.std.specs.Ordering.{nat_cmp}
use Rattle.std.proofs.lemmas.List.Sorted.{IsNonDecreasingBy-from_sort}
use Rattle.std.proofs.lemmas.Bool.{false≢true, eq-eqb, ne_eqb, or_left, or_right, or_cases}
use Rattle.std.proofs.lemmas.List.Kept.{IsNonDecreasingBy-filter}
use Rattle.std.proofs.lemmas.List.Folds.{list_any-append}
use Rattle.std.proofs.lemmas.Option.{slice_get_within}
use Rattle.gr_event.specs.declared.event.Event.{Event}
use Rattle.gr_filter.specs.Tree.{Tree}
use Rattle.gr_filter.specs.Truth.{matches as is_matched}
use Rattle.gr_match.specs.Matches.{matches_from, matches, any}
use Rattle.gr_match.specs.declared.bucket.Bucket.{Bucket}
use Rattle.gr_event.specs.Limits.{IsEvent}
use Rattle.gr_match.specs.Index.{is_match, matches_at, asked, IsIndex}
use Rattle.gr_match.specs.Index.{times}
use Rattle.gr_match.proofs.Times.{Rise, rise_from, same_rise, times-filter, times-IsPermutation, times_below, times_any, any_times}
use Rattle.gr_match.proofs.Asking.{once_asked}

-- ---- the definition

weaker : (n : ℕ) (xs : List ℕ) → AllByRecursion (λ y. suc n ≤ y) xs → AllByRecursion (λ y. n ≤ y) xs
weaker n [] h = tt
weaker n (x ∷ xs) h = (omega (arith, h.0), weaker n xs h.1)

matches-at_least : (n : ℕ) (fs : List Tree) (e : Event) → AllByRecursion (λ y. n ≤ y) (matches_from n fs e)
matches-at_least n [] e = tt
matches-at_least n (f ∷ fs) e =
    elim (is_matched f e) as (λ b. AllByRecursion (λ y. n ≤ y) (cond b (n ∷ matches_from (suc n) fs e) (matches_from (suc n) fs e))) [
      | true ↦ (omega arith, weaker n _ (matches-at_least (suc n) fs e))
      | false ↦ weaker n _ (matches-at_least (suc n) fs e)
    ]

matches-rise : (n : ℕ) (fs : List Tree) (e : Event) → Rise (matches_from n fs e)
matches-rise n [] e = tt
matches-rise n (f ∷ fs) e =
    elim (is_matched f e) as (λ b. Rise (cond b (n ∷ matches_from (suc n) fs e) (matches_from (suc n) fs e))) [
      | true ↦ (weaker n _ (matches-at_least (suc n) fs e), matches-rise (suc n) fs e)
      | false ↦ matches-rise (suc n) fs e
    ]

first_place : (n m : ℕ) (ns : List ℕ) (b : Bool) → m ≡ n → times m ns ≡ 0 → times m (cond b (n ∷ ns) ns) ≡ cond b 1 0
first_place n m ns true e h = rw (eq-eqb n m (sym e)) (omega (arith, h))
first_place n m ns false e h = h

later_place : (n m k : ℕ) (ns : List ℕ) (b : Bool) → n < m → times m ns ≡ k → times m (cond b (n ∷ ns) ns) ≡ k
later_place n m k ns true l h = rw (ne_eqb n m (λ q. differs n m l q)) (omega (arith, h))
  where
    differs : (n m : ℕ) → n < m → n ≡ m → ⊥
    differs n m l q = omega arith
later_place n m k ns false l h = h

matches-times : (n m k : ℕ) (fs : List Tree) (e : Event) → m ≡ n + k → times m (matches_from n fs e) ≡ cond (matches_at fs e k) 1 0
matches-times n m k [] e q = refl
matches-times n m zero (f ∷ fs) e q = first_place n m (matches_from (suc n) fs e) (is_matched f e) (omega (arith, q)) (times_below m (suc n) _ (matches-at_least (suc n) fs e) (omega (arith, q)))
matches-times n m (suc k) (f ∷ fs) e q = later_place n m _ (matches_from (suc n) fs e) (is_matched f e) (omega (arith, q)) (matches-times (suc n) m k fs e (omega (arith, q)))

-- ---- the index

within : (fs : List Tree) (e : Event) (n : ℕ) (o : Option Tree) → slice_get fs n ≡ o → is_match e o ≡ true → n < length fs
within fs e n None q m = absurd (false≢true m)
within fs e n (Some f) q m = slice_get_within fs n f q

found_times : (fs : List Tree) (rest : List ℕ) (row : ℕ → List Bucket) (e : Event) (n : ℕ) (ns : List ℕ) (b : Bool) → IsIndex fs rest row → IsEvent e → IsPermutation (rest ++ asked row e) ns → matches_at fs e n ≡ b → cond b (times n ns) 0 ≡ cond b 1 0
found_times fs rest row e n ns true h v p m = times-IsPermutation n _ ns p ∙ once_asked fs rest row e n h v (within fs e n (slice_get fs n) refl m) m
found_times fs rest row e n ns false h v p m = refl

-- the places that were asked, in order, without those that do not match
pub found_is : (fs : List Tree) (rest : List ℕ) (row : ℕ → List Bucket) (e : Event) (ns : List ℕ) → IsIndex fs rest row → IsEvent e → IsPermutation (rest ++ asked row e) ns → IsNonDecreasing ns → filter (matches_at fs e) ns ≡ matches fs e
found_is fs rest row e ns h v p up =
    same_rise _ _ (rise_from _ (IsNonDecreasingBy-filter (λ x. x) (matches_at fs e) ns up)) (matches-rise 0 fs e)
    (λ n. times-filter (matches_at fs e) n ns ∙ found_times fs rest row e n ns (matches_at fs e n) h v p refl ∙ sym (matches-times 0 n n fs e (omega arith)))

any_place : (fs : List Tree) (e : Event) → any fs e ≡ true → (n : ℕ) × (matches_at fs e n ≡ true)
any_place [] e h = absurd (false≢true h)
any_place (f ∷ fs) e h =
    elim (or_cases (is_matched f e) (any fs e) h) [
      | inl t ↦ (0, t)
      | inr t ↦ let w : (n : ℕ) × (matches_at fs e n ≡ true) = any_place fs e t in (suc w.0, w.1)
    ]

place_any : (fs : List Tree) (e : Event) (n : ℕ) → matches_at fs e n ≡ true → any fs e ≡ true
place_any [] e n h = absurd (false≢true h)
place_any (f ∷ fs) e zero h = or_left (is_matched f e) (any fs e) h
place_any (f ∷ fs) e (suc n) h = or_right (is_matched f e) (any fs e) (place_any fs e n h)

same_truth : (a b : Bool) → (a ≡ true → b ≡ true) → (b ≡ true → a ≡ true) → a ≡ b
same_truth true b h k = sym (h refl)
same_truth false true h k = k refl
same_truth false false h k = refl

-- some place that was asked matches where some filter does
any_is : (fs : List Tree) (rest : List ℕ) (row : ℕ → List Bucket) (e : Event) → IsIndex fs rest row → IsEvent e → list_any (matches_at fs e) (rest ++ asked row e) ≡ any fs e
any_is fs rest row e h v =
    same_truth _ _
    (λ t. let w : (n : ℕ) × (matches_at fs e n ≡ true) × (0 < times n (rest ++ asked row e)) = any_times (matches_at fs e) (rest ++ asked row e) t in place_any fs e w.0 w.1)
    (λ t. let w : (n : ℕ) × (matches_at fs e n ≡ true) = any_place fs e t in times_any (matches_at fs e) w.0 (rest ++ asked row e) w.1 (omega (arith, once_asked fs rest row e w.0 h v (within fs e w.0 (slice_get fs w.0) refl w.1) w.1)))

-- a place of the rest matches
pub any_at_rest : (fs : List Tree) (rest : List ℕ) (e : Event) (r : Bool) → r ≡ list_any (matches_at fs e) rest → r ≡ true → r ≡ any fs e
any_at_rest fs rest e r a t =
    let w : (n : ℕ) × (matches_at fs e n ≡ true) × (0 < times n rest) = any_times (matches_at fs e) rest (sym a ∙ t) in
    t ∙ sym (place_any fs e w.0 w.1)

-- no place of the rest matches, and the buckets decide
pub any_in_buckets : (fs : List Tree) (rest : List ℕ) (row : ℕ → List Bucket) (e : Event) (r s : Bool) → IsIndex fs rest row → IsEvent e → r ≡ list_any (matches_at fs e) rest → r ≡ false → s ≡ list_any (matches_at fs e) (asked row e) → s ≡ any fs e
any_in_buckets fs rest row e r s h v a f b =
    b ∙ sym (ap (λ x. x || list_any (matches_at fs e) (asked row e)) (sym a ∙ f)) ∙ sym (list_any-append (matches_at fs e) rest (asked row e)) ∙ any_is fs rest row e h v

-- the places that were asked, sorted
pub sorted_is : (fs : List Tree) (rest : List ℕ) (row : ℕ → List Bucket) (e : Event) (asks ns : List ℕ) → IsIndex fs rest row → IsEvent e → asks ≡ rest ++ asked row e → IsPermutation asks ns → IsSorted nat_cmp ns → filter (matches_at fs e) ns ≡ matches fs e
sorted_is fs rest row e asks ns h v q p s =
    found_is fs rest row e ns h v (subst (λ xs. IsPermutation xs ns) q p) (IsNonDecreasingBy-from_sort (λ x. x) ns s)
