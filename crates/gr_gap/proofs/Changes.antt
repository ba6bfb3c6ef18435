-- Numbers that are changed from a place on, one after the other.
use Rattle.std.proofs.Common.{◌⊎◌, inl, inr, subst, ◌≡◌, ℕ, zero, suc, ◌+◌, ◌<◌, ◌≤◌, List, [], ◌∷◌, length, set, get_or, refl, ap, ◌∙◌, arith}
use Rattle.gr_gap.specs.Blocks.{changed_from}

-- a place is the first of those from there on, or behind it
pub first_or : (k n : ℕ) → k ≤ n → (n ≡ k) ⊎ (k < n)
first_or zero zero le = inl refl
first_or zero (suc n) le = inr (omega arith)
first_or (suc k) zero le = absurd (omega (arith, le))
first_or (suc k) (suc n) le = elim (first_or k n (omega (arith, le))) [ inl e ↦ inl (omega (arith, e)) | inr h ↦ inr (omega (arith, h)) ]

changed_step : (f : ℕ → ℕ) (k : ℕ) (ss : List ℕ) → k < length ss →
    changed_from f (suc k) (set ss k (f (get_or ss k 0))) ≡ changed_from f k ss
changed_step f k [] lt = absurd (omega (arith, lt))
changed_step f zero (s ∷ ss) lt = refl
changed_step f (suc k) (s ∷ ss) lt = ap (λ l. s ∷ l) (changed_step f k ss (omega (arith, lt)))

-- what is left to change, once one is changed
pub changed_more : (f : ℕ → ℕ) (k : ℕ) (ss : List ℕ) → k < length ss →
    changed_from f (k + 1) (set ss k (f (get_or ss k 0))) ≡ changed_from f k ss
changed_more f k ss lt =
    let step : suc k ≡ k + 1 = omega arith in
    subst (λ j. changed_from f j (set ss k (f (get_or ss k 0))) ≡ changed_from f k ss) step (changed_step f k ss lt)

pub changed_end : (f : ℕ → ℕ) (k : ℕ) (ss : List ℕ) → length ss ≤ k → changed_from f k ss ≡ ss
changed_end f k [] le = refl
changed_end f zero (s ∷ ss) le = absurd (omega (arith, le))
changed_end f (suc k) (s ∷ ss) le = ap (λ l. s ∷ l) (changed_end f k ss (omega (arith, le)))

-- what stands at another place stays where one is set
pub set_apart : (k j : ℕ) (ss : List ℕ) (v : ℕ) → (j ≡ k → ⊥) → get_or (set ss k v) j 0 ≡ get_or ss j 0
set_apart k j [] v ne = refl
set_apart zero zero (s ∷ ss) v ne = absurd (ne refl)
set_apart zero (suc j) (s ∷ ss) v ne = refl
set_apart (suc k) zero (s ∷ ss) v ne = refl
set_apart (suc k) (suc j) (s ∷ ss) v ne = set_apart k j ss v (λ e. ne (omega (arith, e)))

pub set_there : (k : ℕ) (ss : List ℕ) (v : ℕ) → k < length ss → get_or (set ss k v) k 0 ≡ v
set_there k [] v lt = absurd (omega (arith, lt))
set_there zero (s ∷ ss) v lt = refl
set_there (suc k) (s ∷ ss) v lt = set_there k ss v (omega (arith, lt))

-- what is read at a place
pub read_is : (k : ℕ) (ss : List ℕ) (x : ℕ) → k < length ss → x ≡ get_or ss k x → x ≡ get_or ss k 0
read_is k ss x lt e = e ∙ any k ss lt
  where
    any : (j : ℕ) (ls : List ℕ) → j < length ls → get_or ls j x ≡ get_or ls j 0
    any j [] lt = absurd (omega (arith, lt))
    any zero (s ∷ ls) lt = refl
    any (suc j) (s ∷ ls) lt = any j ls (omega (arith, lt))

-- no more of them than before
pub changed_long : (f : ℕ → ℕ) (k : ℕ) (ss : List ℕ) → length (changed_from f k ss) ≡ length ss
changed_long f k [] = refl
changed_long f zero (s ∷ ss) = ap suc (changed_long f zero ss)
changed_long f (suc k) (s ∷ ss) = ap suc (changed_long f k ss)
