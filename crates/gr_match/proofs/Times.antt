-- How often numbers stand in lists, and lists that are equal since they do not fall and have each number equally often
use Rattle.std.proofs.Common.{◌≡◌, ◌≢◌, ℕ, suc, ◌+◌, ◌<◌, ◌≤◌, Bool, true, false, cond, List, [], ◌∷◌, ◌++◌, length, get_or, refl, sym, ap, ◌∙◌, arith, nat_eq, inl, inr, ap₂, ◌||◌}
use Rattle.std.specs.List.{AllByRecursion, filter, list_any, sum_by}
use Rattle.std.specs.List.Sorted.{IsPermutation, IsNonDecreasing}
use Rattle.std.proofs.lemmas.Bool.{cases_Bool, eq-eqb, eqb-true, false≢true, ne_eqb, or_right, cases_order}
use Rattle.std.proofs.lemmas.List.Sums.{sum_by-cons}
use Rattle.std.proofs.lemmas.List.Sorted.{sum_by-IsPermutation}
use Rattle.gr_match.specs.Index.{times}

pub times-append : (n : ℕ) (xs ys : List ℕ) → times n (xs ++ ys) ≡ times n xs + times n ys
times-append n [] ys = omega arith
times-append n (x ∷ xs) ys = omega (arith, times-append n xs ys)

times_sum : (n : ℕ) (xs : List ℕ) → times n xs ≡ sum_by (λ x. cond (nat_eq x n) 1 0) xs
times_sum n [] = refl
times_sum n (x ∷ xs) = ap (λ k. cond (nat_eq x n) 1 0 + k) (times_sum n xs) ∙ sym (sum_by-cons (λ x. cond (nat_eq x n) 1 0) x xs)

pub times-IsPermutation : (n : ℕ) (xs ys : List ℕ) → IsPermutation xs ys → times n ys ≡ times n xs
times-IsPermutation n xs ys h =
    times_sum n ys ∙ sum_by-IsPermutation (λ x. cond (nat_eq x n) 1 0) xs ys h ∙ sym (times_sum n xs)

-- a number that differs does not count
times_other : (b : Bool) (k : ℕ) → b ≡ false → cond b 1 0 + k ≡ k
times_other b k h = rw h (omega arith)

-- none of the numbers passes a test that n passes
pub times_none : (p : ℕ → Bool) (n : ℕ) (xs : List ℕ) → AllByRecursion (λ x. p x ≡ false) xs → p n ≡ true → times n xs ≡ 0
times_none p n [] h t = refl
times_none p n (x ∷ xs) h t =
    elim (cases_Bool (nat_eq x n)) [
      | inl e ↦ absurd (false≢true (sym h.0 ∙ ap p (eqb-true x n e) ∙ t))
      | inr d ↦ times_other (nat_eq x n) (times n xs) d ∙ times_none p n xs h.1 t
    ]

filter_step : (p : ℕ → Bool) (n x k : ℕ) (xs : List ℕ) (b c : Bool) → p x ≡ b → nat_eq x n ≡ c → times n xs ≡ cond (p n) k 0 → times n (cond b (x ∷ xs) xs) ≡ cond (p n) (cond c 1 0 + k) 0
filter_step p n x k xs true true pb e h = rw (e, h, sym (ap p (eqb-true x n e)) ∙ pb) refl
filter_step p n x k xs true false pb e h = rw (e, h) (elim (p n) as (λ b. 0 + cond b k 0 ≡ cond b (0 + k) 0) [ true ↦ refl | false ↦ omega arith ])
filter_step p n x k xs false true pb e h = rw (h, sym (ap p (eqb-true x n e)) ∙ pb) refl
filter_step p n x k xs false false pb e h = rw h (elim (p n) as (λ b. cond b k 0 ≡ cond b (0 + k) 0) [ true ↦ omega arith | false ↦ refl ])

pub times-filter : (p : ℕ → Bool) (n : ℕ) (xs : List ℕ) → times n (filter p xs) ≡ cond (p n) (times n xs) 0
times-filter p n [] = elim (p n) as (λ b. ◌≡◌ {A = ℕ} 0 (cond b 0 0)) [ true ↦ refl | false ↦ refl ]
times-filter p n (x ∷ xs) = filter_step p n x (times n xs) (filter p xs) (p x) (nat_eq x n) refl refl (times-filter p n xs)

-- each number is at most those behind it
abbrev pub Rise : List ℕ → Type 0
Rise [] = Unit {0}
Rise (x ∷ xs) = AllByRecursion (λ y. x ≤ y) xs × Rise xs

at_least : (x : ℕ) (xs : List ℕ) → ((j d : ℕ) → j < length xs → x ≤ get_or xs j d) → AllByRecursion (λ y. x ≤ y) xs
at_least x [] h = tt
at_least x (y ∷ ys) h = (h 0 0 (omega arith), at_least x ys (λ j d l. h (suc j) d (omega arith)))

pub rise_from : (xs : List ℕ) → IsNonDecreasing xs → Rise xs
rise_from [] h = tt
rise_from (x ∷ xs) h =
    (at_least x xs (λ j d l. h 0 (suc j) d (omega arith) (omega arith)), rise_from xs (λ i j d le lt. h (suc i) (suc j) d (omega arith) (omega arith)))

above_differs : (x n m : ℕ) → m ≤ x → n < m → x ≢ n
above_differs x n m h l e = omega arith

-- a number below all others stands nowhere
pub times_below : (n m : ℕ) (xs : List ℕ) → AllByRecursion (λ y. m ≤ y) xs → n < m → times n xs ≡ 0
times_below n m [] h l = refl
times_below n m (x ∷ xs) h l = times_other (nat_eq x n) (times n xs) (ne_eqb x n (above_differs x n m h.0 l)) ∙ times_below n m xs h.1 l

times_head : (n : ℕ) (xs : List ℕ) → 0 < times n (n ∷ xs)
times_head n xs = rw (eq-eqb n n refl) (omega arith)

same_tail : (x y n : ℕ) (xs ys : List ℕ) → x ≡ y → times n (x ∷ xs) ≡ times n (y ∷ ys) → times n xs ≡ times n ys
same_tail x y n xs ys e h = omega (arith, h, ap {B = ℕ} (λ z. cond (nat_eq z n) 1 0) e)

-- lists that do not fall and have each number equally often are equal
pub same_rise : (xs ys : List ℕ) → Rise xs → Rise ys → ((n : ℕ) → times n xs ≡ times n ys) → xs ≡ ys
same_rise [] [] r s h = refl
same_rise [] (y ∷ ys) r s h = absurd (omega (arith, h y, times_head y ys))
same_rise (x ∷ xs) [] r s h = absurd (omega (arith, h x, times_head x xs))
same_rise (x ∷ xs) (y ∷ ys) r s h =
    elim (cases_order x y) [
      | inl e ↦ ap₂ (λ z zs. z ∷ zs) e (same_rise xs ys r.1 s.1 (λ n. same_tail x y n xs ys e (h n)))
      | inr (inl l) ↦ absurd (omega (arith, h x, times_head x xs, times_below x y (y ∷ ys) (omega arith, s.0) l))
      | inr (inr l) ↦ absurd (omega (arith, h y, times_head y ys, times_below y x (x ∷ xs) (omega arith, r.0) l))
    ]

any_later : (x : ℕ) (p : ℕ → Bool) (xs : List ℕ) → (n : ℕ) × (p n ≡ true) × (0 < times n xs) → (n : ℕ) × (p n ≡ true) × (0 < times n (x ∷ xs))
any_later x p xs w = (w.0, w.1, omega (arith, w.2))

-- what passes a test stands in the list
pub any_times : (p : ℕ → Bool) (xs : List ℕ) → list_any p xs ≡ true → (n : ℕ) × (p n ≡ true) × (0 < times n xs)
any_times p [] h = absurd (false≢true h)
any_times p (x ∷ xs) h =
    elim (cases_Bool (p x)) [
      | inl t ↦ (x, t, times_head x xs)
      | inr f ↦ any_later x p xs (any_times p xs (sym (ap (λ b. b || list_any p xs) f) ∙ h))
    ]

pub times_any : (p : ℕ → Bool) (n : ℕ) (xs : List ℕ) → p n ≡ true → 0 < times n xs → list_any p xs ≡ true
times_any p n [] t l = absurd (omega (arith, l))
times_any p n (x ∷ xs) t l =
    elim (cases_Bool (nat_eq x n)) [
      | inl e ↦ ap (λ b. b || list_any p xs) (ap p (eqb-true x n e) ∙ t)
      | inr d ↦ or_right (p x) (list_any p xs) (times_any p n xs t (omega (arith, l, times_other (nat_eq x n) (times n xs) d)))
    ]
