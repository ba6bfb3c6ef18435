-- A value is put into its place: what was passed is below it, and stays in front
use Rattle.std.proofs.Common.{◌≡◌, ℕ, ◌+◌, ◌<◌, ◌≤◌, List, [], ◌∷◌, ◌++◌, length, take, drop, get_or, refl, sym, ap, ap₂, ◌∙◌}
use Rattle.std.specs.Prelude.{insert}
use Rattle.std.specs.declared.cmp.Ordering.{Ordering}
use Rattle.std.specs.declared.cmp.Ordering.TheVariants.{Less, Equal}
use Rattle.std.proofs.lemmas.List.{drop_more, drop_all, take_all, take-append-drop}
use Rattle.gr_cover.specs.Candidates.{inserted}

next : {X : Type 0} (xs : List X) (i : ℕ) (y : X) → i < length xs → y ≡ get_or xs i y → drop i xs ≡ y ∷ drop (i + 1) xs
next xs i y l e = drop_more xs i y l ∙ ap (λ z. z ∷ drop (i + 1) xs) (sym e)

-- it is below the one at its place
pub less_here : {X : Type 0} (cmp : X → X → Ordering) (x y : X) (xs : List X) (i : ℕ) → i < length xs → y ≡ get_or xs i y → cmp x y ≡ Less
    → take i xs ++ inserted cmp x (drop i xs) ≡ inserted cmp x xs → insert xs i x ≡ inserted cmp x xs
less_here cmp x y xs i l e r h =
    let n = next xs i y l e in
    let s : inserted cmp x (y ∷ drop (i + 1) xs) ≡ x ∷ (y ∷ drop (i + 1) xs) = rw (r, inserted) refl in
    ap (λ zs. take i xs ++ x ∷ zs) n ∙ ap (λ zs. take i xs ++ zs) (sym s) ∙ ap (λ zs. take i xs ++ inserted cmp x zs) (sym n) ∙ h

-- it is the one at its place
pub equal_here : {X : Type 0} (cmp : X → X → Ordering) (x y : X) (xs : List X) (i : ℕ) → i < length xs → y ≡ get_or xs i y → cmp x y ≡ Equal
    → take i xs ++ inserted cmp x (drop i xs) ≡ inserted cmp x xs → xs ≡ inserted cmp x xs
equal_here cmp x y xs i l e r h =
    let n = next xs i y l e in
    let s : inserted cmp x (y ∷ drop (i + 1) xs) ≡ y ∷ drop (i + 1) xs = rw (r, inserted) refl in
    sym (take-append-drop i xs) ∙ ap (λ zs. take i xs ++ zs) (n ∙ sym s) ∙ ap (λ zs. take i xs ++ inserted cmp x zs) (sym n) ∙ h

-- it is above all
pub end_here : {X : Type 0} (cmp : X → X → Ordering) (x : X) (xs : List X) (i : ℕ) → length xs ≤ i → take i xs ++ inserted cmp x (drop i xs) ≡ inserted cmp x xs → xs ++ x ∷ [] ≡ inserted cmp x xs
end_here cmp x xs i l h = sym (ap₂ (λ ys zs. ys ++ inserted cmp x zs) (take_all i xs l) (drop_all i xs l)) ∙ h
