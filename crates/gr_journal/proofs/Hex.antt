-- Pairs of digits, read from the front
use Rattle.std.proofs.Common.{◌≡◌, ℕ, zero, suc, ◌+◌, ◌*◌, ◌<◌, ◌≤◌, List, [], ◌∷◌, ◌++◌, length, get_or, drop, refl, sym, ap, ap₂, ◌∙◌, arith, append_assoc, append-nil}
use Rattle.gr_journal.specs.Words.{digit_value, hex_bytes}

pair_suc : (word : List ℕ) (i : ℕ) → suc i < length word → hex_bytes (drop i word) ≡ (digit_value (get_or word i 0) * 16 + digit_value (get_or word (suc i) 0)) ∷ hex_bytes (drop (suc (suc i)) word)
pair_suc [] i h = absurd (omega (arith, h))
pair_suc (a ∷ []) zero h = absurd (omega (arith, h))
pair_suc (a ∷ b ∷ word) zero h = refl
pair_suc (a ∷ word) (suc i) h = pair_suc word i (omega (arith, h))

pair_at : (word : List ℕ) (i : ℕ) → i + 1 < length word → hex_bytes (drop i word) ≡ (digit_value (get_or word i 0) * 16 + digit_value (get_or word (i + 1) 0)) ∷ hex_bytes (drop (i + 2) word)
pair_at word i h =
    let one : suc i ≡ i + 1 = omega arith in
    let two : suc (suc i) ≡ i + 2 = omega arith in
    pair_suc word i (omega (arith, h))
    ∙ ap₂ (λ x y. (digit_value (get_or word i 0) * 16 + digit_value (get_or word x 0)) ∷ hex_bytes (drop y word)) one two

none_at : (word : List ℕ) (i : ℕ) → length word ≤ i + 1 → hex_bytes (drop i word) ≡ []
none_at [] zero h = refl
none_at [] (suc i) h = refl
none_at (a ∷ []) zero h = refl
none_at (a ∷ b ∷ word) zero h = absurd (omega (arith, h))
none_at (a ∷ word) (suc i) h = none_at word i (omega (arith, h))

-- one pair more
pub more_bytes : (word before after all : List ℕ) (i next x y : ℕ) → i + 1 < length word → before ++ hex_bytes (drop i word) ≡ all → x ≡ digit_value (get_or word i 0) → y ≡ digit_value (get_or word (i + 1) 0)
    → after ≡ before ++ (x * 16 + y) ∷ [] → next ≡ i + 2 → after ++ hex_bytes (drop next word) ≡ all
more_bytes word before after all i next x y h inv ex ey e n =
    ap₂ (λ xs k. xs ++ hex_bytes (drop k word)) e n
    ∙ (append_assoc before ((x * 16 + y) ∷ []) (hex_bytes (drop (i + 2) word))
    ∙ (ap (λ z. before ++ z) (ap₂ (λ a b. (a * 16 + b) ∷ hex_bytes (drop (i + 2) word)) ex ey ∙ sym (pair_at word i h)) ∙ inv))

-- no pair is left
pub all_bytes : (word before all : List ℕ) (i : ℕ) → length word ≤ i + 1 → before ++ hex_bytes (drop i word) ≡ all → before ≡ all
all_bytes word before all i h inv = sym (append-nil before) ∙ (ap (λ z. before ++ z) (sym (none_at word i h)) ∙ inv)
