-- Two texts are the same exactly where the walk over both finds no difference
use Rattle.std.proofs.Common.{◌≡◌, ℕ, suc, Bool, true, false, List, [], ◌∷◌, Some, None, refl, ap, ap₂, ◌∙◌, subst, nat_eq}
use Rattle.std.specs.Prelude.{if◌then◌else◌}
use Rattle.std.proofs.lemmas.Bool.{eq-eqb, eqb-true}
use Rattle.gr_audit.specs.Verdict.{first_wrong, WrongIsExact}

one_same : (n m x y : ℕ) (xs ys : List ℕ) (b : Bool) → nat_eq x y ≡ b → (if b then first_wrong m xs ys else Some n) ≡ None → (first_wrong m xs ys ≡ None → xs ≡ ys) → x ∷ xs ≡ y ∷ ys
one_same n m x y xs ys true h e more = ap₂ (λ z zs. z ∷ zs) (eqb-true x y h) (more e)
one_same n m x y xs ys false h e more = absurd (cc)

same : (n : ℕ) (xs ys : List ℕ) → first_wrong n xs ys ≡ None → xs ≡ ys
same n [] [] e = refl
same n [] (y ∷ ys) e = absurd (cc)
same n (x ∷ xs) [] e = absurd (cc)
same n (x ∷ xs) (y ∷ ys) e =
    let m = if nat_eq x 10 then suc n else n in one_same n m x y xs ys (nat_eq x y) refl e (same m xs ys)

pub none : (n : ℕ) (xs : List ℕ) → first_wrong n xs xs ≡ None
none n [] = refl
none n (x ∷ xs) =
    let m = if nat_eq x 10 then suc n else n in ap (λ b. if b then first_wrong m xs xs else Some n) (eq-eqb x x refl) ∙ none m xs

pub wrong_exact : WrongIsExact
wrong_exact n xs ys = (same n xs ys, λ e. subst (λ zs. first_wrong n xs zs ≡ None) e (none n xs))
