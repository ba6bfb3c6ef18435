-- Lists along numbers: two functions that agree on the numbers give one list, and the numbers that are left are one and
-- those behind it
use Rattle.std.proofs.Common.{◌≡◌, ℕ, zero, suc, ◌+◌, ◌-◌, ◌<◌, ◌≤◌, List, [], ◌∷◌, ◌++◌, map, get_or, refl, sym, ap, ◌∙◌, arith, add-one}
use Rattle.std.specs.Prelude.{flat_map}
use Rattle.gr_model.specs.Net.{numbers_from}

-- functions that agree on the numbers give one list
pub flat_map_same : {X : Type 0} (f g : ℕ → List X) (a n : ℕ) → ((k : ℕ) → a ≤ k → k < a + n → f k ≡ g k) → flat_map f (numbers_from a n) ≡ flat_map g (numbers_from a n)
flat_map_same f g a zero h = refl
flat_map_same f g a (suc n) h =
    ap (λ xs. xs ++ flat_map f (numbers_from (suc a) n)) (h a (omega arith) (omega arith))
    ∙ ap (λ xs. g a ++ xs) (flat_map_same f g (suc a) n (λ k from upto. h k (omega (arith, from)) (omega (arith, upto))))

-- the same one by one
pub map_same : {X : Type 0} (f g : ℕ → X) (a n : ℕ) → ((k : ℕ) → a ≤ k → k < a + n → f k ≡ g k) → map f (numbers_from a n) ≡ map g (numbers_from a n)
map_same f g a zero h = refl
map_same f g a (suc n) h =
    ap (λ x. x ∷ map f (numbers_from (suc a) n)) (h a (omega arith) (omega arith))
    ∙ ap (λ xs. g a ∷ xs) (map_same f g (suc a) n (λ k from upto. h k (omega (arith, from)) (omega (arith, upto))))

-- lists that are all empty
pub flat_map_none : {X : Type 0} (f : ℕ → List X) (a n : ℕ) → ((k : ℕ) → a ≤ k → k < a + n → f k ≡ []) → flat_map f (numbers_from a n) ≡ []
flat_map_none f a zero h = refl
flat_map_none f a (suc n) h =
    ap (λ xs. xs ++ flat_map f (numbers_from (suc a) n)) (h a (omega arith) (omega arith))
    ∙ flat_map_none f (suc a) n (λ k from upto. h k (omega (arith, from)) (omega (arith, upto)))

-- what stands at a place
pub at_number : {X : Type 0} (f : ℕ → X) (from k i : ℕ) (d : X) → i < k → get_or (map f (numbers_from from k)) i d ≡ f (from + i)
at_number f from zero i d h = absurd (omega arith)
at_number f from (suc k) zero d h = let e : from ≡ from + 0 = omega arith in ap f e
at_number f from (suc k) (suc i) d h = let e : suc from + i ≡ from + suc i = omega arith in at_number f (suc from) k i d (omega arith) ∙ ap f e

-- the numbers from one on are it and those behind it
pub numbers_left : (i n : ℕ) → i < n → numbers_from i (n - i) ≡ i ∷ numbers_from (i + 1) (n - (i + 1))
numbers_left i n h =
    let e : n - i ≡ suc (n - (i + 1)) = omega arith in
    ap (λ k. numbers_from i k) e ∙ ap (λ k. i ∷ numbers_from k (n - (i + 1))) (sym (add-one i))
