-- The words of how many joins a frame has
use Rattle.std.proofs.Common.{◌≡◌, ℕ, [], ◌∷◌, length, refl, sym, ap, arith}
use Rattle.std.specs.Prelude.{codes}
use Rattle.std.specs.Fmt.{decimal}
use Rattle.gr_event.specs.Joins.{Joins}
use Rattle.gr_model.specs.Text.{joins_words}

pub none_worded : (js : Joins) (n : ℕ) → n ≡ length js → n ≡ 0 → joins_words js ≡ []
none_worded [] n e z = refl
none_worded (j ∷ js) n e z = absurd (omega (arith, e, z))

pub some_worded : (js : Joins) (n : ℕ) → n ≡ length js → (n ≡ 0 → ⊥) → codes "joins" ∷ decimal n ∷ [] ≡ joins_words js
some_worded [] n e some = absurd (some e)
some_worded (j ∷ js) n e some = ap (λ k. codes "joins" ∷ decimal k ∷ []) e
