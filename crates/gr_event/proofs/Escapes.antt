-- What JSON escapes of a text.
use Rattle.std.proofs.Common.{◌≡◌, ℕ, nat_lt, List, [], ◌∷◌, ◌++◌, true, false, refl, ap₂, arith}
use Rattle.std.specs.List.{list_all}
use Rattle.std.proofs.lemmas.Bool.{and_parts}
use Rattle.std.proofs.lemmas.Bool.Decides.{nat_tests}
use Rattle.json.specs.Run.{is_plain}
use Rattle.json.specs.Print.{escape_letter, escape_byte, escape}

-- a plain byte stands for itself
no_letter : (x : ℕ) → is_plain x ≡ true → escape_letter x ≡ 0
no_letter x h = grind (arith, nat_tests)

no_control : (x : ℕ) → is_plain x ≡ true → nat_lt x 32 ≡ false
no_control x h = grind (arith, nat_tests)

pub plain_byte : (x : ℕ) → is_plain x ≡ true → escape_byte x ≡ x ∷ []
unfolding escape_byte
plain_byte x h = rw (escape_byte, no_letter x h, no_control x h) refl

-- and so does a text of plain bytes
pub plain_text : (xs : List ℕ) → list_all is_plain xs ≡ true → escape xs ≡ xs
plain_text [] h = refl
plain_text (x ∷ xs) h =
    let parts = and_parts (is_plain x) (list_all is_plain xs) h in
    ap₂ (λ (a b : List ℕ). a ++ b) (plain_byte x parts.0) (plain_text xs parts.1)
