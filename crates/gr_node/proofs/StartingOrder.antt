-- The brokers that are hosted rise: the next of them is not among those before it, and these are all that are less.
use Rattle.std.proofs.Common.{◌≡◌, ℕ, zero, suc, ◌+◌, ◌<◌, Bool, true, false, ◌||◌, nat_eq, List, [], ◌∷◌, ◌++◌, length, take, drop, get_or, inl, inr, refl, sym, ap, ◌∙◌, subst, arith, take-append-drop, eqb-true, eq-eqb}
use Rattle.std.specs.List.{AllByRecursion}
use Rattle.std.proofs.lemmas.Bool.{or_left, or_right, or_cases, false≢true, false_from_ne_true}
use Rattle.std.proofs.lemmas.List.{take_more}
use Rattle.std.proofs.lemmas.List.Folds.{list_any-append}
use Rattle.gr_out.specs.Journal.{is_among}
use Rattle.gr_model.specs.NetOf.{IsRising}

or_false : (x : Bool) → (x || false) ≡ x
or_false true = refl
or_false false = refl

-- a broker is among these and one more where it is among these, or is the one
pub among_more : (xs : List ℕ) (b a : ℕ) → is_among (xs ++ b ∷ []) a ≡ (is_among xs a || nat_eq b a)
among_more xs b a = list_any-append (λ z. nat_eq z a) xs (b ∷ []) ∙ ap (λ t. is_among xs a || t) (or_false (nat_eq b a))

-- one that is among the first is among all
pub among_front : (xs ys : List ℕ) (a : ℕ) → is_among xs a ≡ true → is_among (xs ++ ys) a ≡ true
among_front xs ys a e = list_any-append (λ z. nat_eq z a) xs ys ∙ or_left (is_among xs a) (is_among ys a) e

pub among_taken : (k : ℕ) (xs : List ℕ) (a : ℕ) → is_among (take k xs) a ≡ true → is_among xs a ≡ true
among_taken k xs a e = ap (λ zs. is_among zs a) (sym (take-append-drop k xs)) ∙ among_front (take k xs) (drop k xs) a e

-- and so is the last
pub among_last : (xs : List ℕ) (b : ℕ) → is_among (xs ++ b ∷ []) b ≡ true
among_last xs b = among_more xs b b ∙ or_right (is_among xs b) (nat_eq b b) (eq-eqb b b refl)

among_at : (xs : List ℕ) (k : ℕ) → k < length xs → is_among xs (get_or xs k 0) ≡ true
among_at [] k j = absurd (omega (arith, j))
among_at (x ∷ xs) zero j = or_left (nat_eq x x) (is_among xs x) (eq-eqb x x refl)
among_at (x ∷ xs) (suc k) j = or_right (nat_eq x (get_or xs k 0)) (is_among xs (get_or xs k 0)) (among_at xs k (omega (arith, j)))

-- each of the first is less than the next
first_below : (xs : List ℕ) (k a : ℕ) → IsRising xs → k < length xs → is_among (take k xs) a ≡ true → a < get_or xs k 0
first_below [] k a r j e = absurd (omega (arith, j))
first_below (x ∷ xs) zero a r j e = absurd (false≢true e)
first_below (x ∷ xs) (suc k) a r j e = elim (or_cases (nat_eq x a) (is_among (take k xs) a) e) [
  | inl same ↦ subst (λ (n : ℕ). n < get_or xs k 0) (eqb-true x a same) (r.0 (get_or xs k 0) (among_at xs k (omega (arith, j))))
  | inr later ↦ first_below xs k a r.1 (omega (arith, j)) later
]

-- and each that is less is one of the first
below_first : (xs : List ℕ) (k a : ℕ) → IsRising xs → k < length xs → is_among xs a ≡ true → a < get_or xs k 0 → is_among (take k xs) a ≡ true
below_first [] k a r j e m = absurd (omega (arith, j))
below_first (x ∷ xs) zero a r j e m = elim (or_cases (nat_eq x a) (is_among xs a) e) [
  | inl same ↦ let s = eqb-true x a same in absurd (omega (arith, s, m))
  | inr later ↦ let more = r.0 a later in absurd (omega (arith, more, m))
]
below_first (x ∷ xs) (suc k) a r j e m = elim (or_cases (nat_eq x a) (is_among xs a) e) [
  | inl same ↦ or_left (nat_eq x a) (is_among (take k xs) a) same
  | inr later ↦ or_right (nat_eq x a) (is_among (take k xs) a) (below_first xs k a r.1 (omega (arith, j)) later m)
]

-- A broker that is the next to start, behind so many
pub record IsNext (hosted : List ℕ) (i b : ℕ) : Type 0 where
  pub within : i < length hosted
  pub at : get_or hosted i 0 ≡ b
  pub more : take (i + 1) hosted ≡ take i hosted ++ b ∷ []
  pub new : is_among (take i hosted) b ≡ false
  pub here : is_among hosted b ≡ true
  pub before : (a : ℕ) → is_among hosted a ≡ true → a < b → is_among (take i hosted) a ≡ true

pub is_next : (hosted : List ℕ) (i : ℕ) → IsRising hosted → i < length hosted → IsNext hosted i (get_or hosted i 0)
is_next hosted i rising j = record {
  within = j;
  at = refl;
  more = take_more hosted i 0 j;
  new = false_from_ne_true (is_among (take i hosted) (get_or hosted i 0)) (λ m. let less = first_below hosted i (get_or hosted i 0) rising j m in omega (arith, less));
  here = among_at hosted i j;
  before = λ a m less. below_first hosted i a rising j m less;
}

-- what holds of each of some numbers holds of the one at a place
pub each_at : (P : ℕ → Type 0) (xs : List ℕ) (k : ℕ) → AllByRecursion P xs → k < length xs → P (get_or xs k 0)
each_at P [] k a j = absurd (omega (arith, j))
each_at P (x ∷ xs) zero a j = a.0
each_at P (x ∷ xs) (suc k) a j = each_at P xs k a.1 (omega (arith, j))

-- what holds of each that is among some numbers holds of each of them
pub each_among : (P : ℕ → Type 0) (xs : List ℕ) → ((a : ℕ) → is_among xs a ≡ true → P a) → AllByRecursion P xs
each_among P [] h = tt
each_among P (x ∷ xs) h = (h x (or_left (nat_eq x x) (is_among xs x) (eq-eqb x x refl)), each_among P xs (λ a m. h a (or_right (nat_eq x a) (is_among xs a) m)))
