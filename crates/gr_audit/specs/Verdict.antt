-- Where a text goes wrong
use Rattle.std.specs.Prelude.{◌≡◌, ◌↔◌, ℕ, suc, nat_eq, if◌then◌else◌, List, [], ◌∷◌, Option, Some, None}

-- none where two texts are the same; else so many lines down from n as both begin with
abbrev pub first_wrong : ℕ → List ℕ → List ℕ → Option ℕ
first_wrong n [] [] = None
first_wrong n [] (y ∷ ys) = Some n
first_wrong n (x ∷ xs) [] = Some n
first_wrong n (x ∷ xs) (y ∷ ys) =
    if nat_eq x y then first_wrong (if nat_eq x 10 then suc n else n) xs ys else Some n

abbrev pub WrongIsExact : Type 0
WrongIsExact = (n : ℕ) (xs ys : List ℕ) → (first_wrong n xs ys ≡ None) ↔ (xs ≡ ys)
