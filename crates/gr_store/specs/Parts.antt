-- How frames stand one after another in one list of bytes
use Rattle.std.specs.Prelude.{◌≡◌, ◌≤◌, ℕ, List, [], ◌∷◌, slice_range}

-- the bytes of each frame, where the first begins at `from` and each goes on to its end
abbrev pub parts : ℕ → List ℕ → List ℕ → List (List ℕ)
parts from [] bytes = []
parts from (end ∷ ends) bytes = slice_range bytes from end ∷ parts end ends bytes

-- each end is at least the one before it, and `last` is the last of them, or `from` where there is none
abbrev pub RiseTo : ℕ → ℕ → List ℕ → Type 0
RiseTo last from [] = from ≡ last
RiseTo last from (end ∷ ends) = (from ≤ end) × RiseTo last end ends
