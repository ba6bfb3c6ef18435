-- The first byte that passes a test, as a search finds it, stands where the list's bytes first pass
use Rattle.std.proofs.Common.{◌≡◌, ℕ, zero, suc, ◌+◌, ◌<◌, List, [], ◌∷◌, length, get_or, arith, refl, ap, sym, ◌∙◌, Bool, true, false, cond, Option, Some, None, nat_lt, lt-ltb, le-ltb}
use Rattle.std.specs.Prelude.{not}
use Rattle.std.specs.List.{position_or_len, position}
use Rattle.memchr.specs.Find.{IsFirstByte}

one_more : (n : ℕ) → 1 + n ≡ suc n
one_more n = omega arith

-- one passes, and none before it
first_len : (p : ℕ → Bool) (xs : List ℕ) (k : ℕ) → k < length xs → p (get_or xs k 0) ≡ true → ((j : ℕ) → j < k → p (get_or xs j 0) ≡ true → ⊥) → position_or_len p xs ≡ k
first_len p [] k below here before = absurd (omega (arith, below))
first_len p (x ∷ xs) zero below here before = ap (λ v. cond (not v) (1 + position_or_len p xs) 0) here
first_len p (x ∷ xs) (suc k) below here before = step (p x) refl (λ e. first_len p xs k (omega (arith, below)) here (λ j lt y. before (suc j) (omega (arith, lt)) y))
  where
    step : (v : Bool) → p x ≡ v → (v ≡ false → position_or_len p xs ≡ k) → cond (not (p x)) (1 + position_or_len p xs) 0 ≡ suc k
    step true e rest = absurd (before 0 (omega arith) e)
    step false e rest = ap (λ v. cond (not v) (1 + position_or_len p xs) 0) e ∙ ap (λ n. 1 + n) (rest refl) ∙ one_more k

-- none passes
none_len : (p : ℕ → Bool) (xs : List ℕ) → ((j : ℕ) → j < length xs → p (get_or xs j 0) ≡ true → ⊥) → position_or_len p xs ≡ length xs
none_len p [] none = refl
none_len p (x ∷ xs) none = step (p x) refl (λ e. none_len p xs (λ j lt y. none (suc j) (omega (arith, lt)) y))
  where
    step : (v : Bool) → p x ≡ v → (v ≡ false → position_or_len p xs ≡ length xs) → cond (not (p x)) (1 + position_or_len p xs) 0 ≡ suc (length xs)
    step true e rest = absurd (none 0 (omega arith) e)
    step false e rest = ap (λ v. cond (not v) (1 + position_or_len p xs) 0) e ∙ ap (λ n. 1 + n) (rest refl) ∙ one_more (length xs)

pub first_is : (p : ℕ → Bool) (xs : List ℕ) (r : Option ℕ) → IsFirstByte p xs r → r ≡ position p xs
first_is p xs None h =
    sym (ap (λ n. cond (nat_lt n (length xs)) (Some n) None) (none_len p xs (λ j lt y. h j (omega arith) lt y)) ∙ none (length xs))
  where
    none : (n : ℕ) → cond (nat_lt n n) (Some n) None ≡ None
    none n = ap (λ b. cond b (Some n) None) (le-ltb n n (omega arith))
first_is p xs (Some k) h =
    sym (ap (λ n. cond (nat_lt n (length xs)) (Some n) None) (first_len p xs k h.0.high h.1 (λ j lt y. h.0.before j (omega arith) lt y))
    ∙ ap (λ b. cond b (Some k) None) (lt-ltb k (length xs) h.0.high))
