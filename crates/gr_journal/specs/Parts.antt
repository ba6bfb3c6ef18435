-- What stands before the line `===`, and what behind it
use Rattle.std.specs.Prelude.{ℕ, Bool, if◌then◌else◌, List, [], ◌∷◌, ◌++◌, map, codes, bytes_eq}
use Rattle.gr_sched.specs.Text.{pieces_of, line_of, joined}

-- the line between a scenario and journals is exactly `===`
abbrev pub is_bar : List ℕ → Bool
is_bar piece = bytes_eq (line_of piece) (codes "===")

-- what stands before the first: all where there is none
abbrev pub before_bar : List (List ℕ) → List ℕ
before_bar [] = []
before_bar (piece ∷ pieces) = if is_bar piece then [] else piece ++ before_bar pieces

-- what stands behind the first: nothing where there is none
abbrev pub behind_bar : List (List ℕ) → List ℕ
behind_bar [] = []
behind_bar (piece ∷ pieces) = if is_bar piece then joined pieces else behind_bar pieces

-- the two parts of a text
abbrev pub scenario_part : List ℕ → List ℕ
scenario_part bytes = before_bar (pieces_of bytes)

abbrev pub journal_part : List ℕ → List ℕ
journal_part bytes = behind_bar (pieces_of bytes)

-- the lines of a text, without their ends
abbrev pub lines_of : List ℕ → List (List ℕ)
lines_of text = map line_of (pieces_of text)
