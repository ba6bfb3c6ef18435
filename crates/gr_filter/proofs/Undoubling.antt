-- A doubled quote is one quote of what it stands for
use Rattle.std.proofs.Common.{◌≡◌, ℕ, zero, suc, ◌+◌, ◌<◌, Bool, true, false, ◌==◌, if◌then◌else◌, List, [], ◌∷◌, ◌++◌, length, drop, get_or, refl, sym, ap, ◌∙◌, arith}
use Rattle.std.proofs.lemmas.List.{append_assoc}
use Rattle.gr_filter.specs.Token.{undoubled}
use Rattle.gr_filter.proofs.Lexing.{chosen}

pair_past : (s : List ℕ) (at c d : ℕ) → suc at < length s → c ≡ get_or s at d → c ≡ 39 → undoubled (drop at s) ≡ c ∷ undoubled (drop (suc (suc at)) s)
pair_past [] at c d l h q = absurd (omega (arith, l))
pair_past (x ∷ []) zero c d l h q = absurd (omega (arith, l))
pair_past (x ∷ (y ∷ rest)) zero c d l h q =
    chosen (x == 39) (39 ∷ undoubled rest) (x ∷ undoubled (y ∷ rest)) (ap (λ z. z == 39) (sym h ∙ q)) ∙ ap (λ z. z ∷ undoubled rest) (sym q)
pair_past (x ∷ rest) (suc at) c d l h q = pair_past rest at c d (omega (arith, l)) h q

-- what was put, with one quote for two
pub pair_put : (s : List ℕ) (at c d : ℕ) (out more whole : List ℕ) → at + 1 < length s → c ≡ get_or s at d → c ≡ 39 → more ≡ out ++ c ∷ [] → out ++ undoubled (drop at s) ≡ whole → more ++ undoubled (drop (at + 2) s) ≡ whole
pair_put s at c d out more whole l h q m e =
    ap (λ xs. xs ++ undoubled (drop (at + 2) s)) m
    ∙ (append_assoc out (c ∷ []) (undoubled (drop (at + 2) s))
    ∙ (ap (λ xs. out ++ xs) (ap (λ k. c ∷ undoubled (drop k s)) (two at) ∙ sym (pair_past s at c d (omega (arith, l)) h q)) ∙ e))
  where
    two : (n : ℕ) → n + 2 ≡ suc (suc n)
    two n = omega arith
