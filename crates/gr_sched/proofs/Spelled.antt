-- A word that was tested byte by byte
use Rattle.std.proofs.Common.{◌≡◌, ℕ, suc, List, [], ◌∷◌, length, get_or, refl, arith}

-- from place i on these bytes stand in a word
abbrev pub AreAt : List ℕ → ℕ → List ℕ → Type 0
AreAt word i [] = Unit {0}
AreAt word i (b ∷ bs) = (get_or word i 0 ≡ b) × AreAt word (suc i) bs

behind_first : (b : ℕ) (word : List ℕ) (i : ℕ) (bytes : List ℕ) → AreAt (b ∷ word) (suc i) bytes → AreAt word i bytes
behind_first b word i [] h = tt
behind_first b word i (c ∷ bytes) h = (h.0, behind_first b word (suc i) bytes h.1)

-- a word is as many bytes as it is long
pub spelled : (word bytes : List ℕ) → length word ≡ length bytes → AreAt word 0 bytes → word ≡ bytes
spelled [] [] n h = refl
spelled [] (c ∷ bytes) n h = absurd (omega (arith, n))
spelled (b ∷ word) [] n h = absurd (omega (arith, n))
spelled (b ∷ word) (c ∷ bytes) n h = rw (h.0, spelled word bytes (omega (arith, n)) (behind_first b word 0 bytes h.1)) refl
