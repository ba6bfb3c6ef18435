-- The lines of a text, the separator between the two parts of a scenario, and the counted lines of a schedule
use Rattle.std.specs.Prelude.{ℕ, ◌+◌, ◌==◌, ◌||◌, Bool, false, not, if◌then◌else◌, List, [], ◌∷◌, ◌++◌, codes, bytes_eq}
use Rattle.std.specs.Prelude.{drop}
use Rattle.std.specs.List.{list_all, position_or_len}
use Rattle.std.specs.Io.BufRead.{ends_with_byte, strip_last}

-- a space or a tab
abbrev pub is_gap : ℕ → Bool
is_gap b = (b == 32) || (b == 9)

-- a space, a tab, CR or LF
abbrev pub is_blank_byte : ℕ → Bool
is_blank_byte b = is_gap b || (b == 13) || (b == 10)

-- nothing but spaces, tabs, CR and LF
abbrev pub is_blank : List ℕ → Bool
is_blank bytes = list_all is_blank_byte bytes

-- a byte that begins the first of these pieces
abbrev pub longer : ℕ → List (List ℕ) → List (List ℕ)
longer b [] = (b ∷ []) ∷ []
longer b (piece ∷ pieces) = (b ∷ piece) ∷ pieces

-- a text cut behind each LF
abbrev pub pieces_of : List ℕ → List (List ℕ)
pieces_of [] = []
pieces_of (b ∷ bs) = if b == 10 then (b ∷ []) ∷ pieces_of bs else longer b (pieces_of bs)

-- what stands in the line of a piece: its LF and the one CR before it are left off, and a piece without LF is whole
abbrev pub line_of : List ℕ → List ℕ
line_of piece = if ends_with_byte 10 piece then strip_last 13 (strip_last 10 piece) else piece

-- the separator is a line of its own, exactly `---`
abbrev pub is_separator : List ℕ → Bool
is_separator piece = bytes_eq (line_of piece) (codes "---")

-- what stands before the first separator: all where there is none
abbrev pub before_separator : List (List ℕ) → List ℕ
before_separator [] = []
before_separator (piece ∷ pieces) = if is_separator piece then [] else piece ++ before_separator pieces

-- all bytes of these pieces
abbrev pub joined : List (List ℕ) → List ℕ
joined [] = []
joined (piece ∷ pieces) = piece ++ joined pieces

-- what stands after the first separator: nothing where there is none
abbrev pub after_separator : List (List ℕ) → List ℕ
after_separator [] = []
after_separator (piece ∷ pieces) = if is_separator piece then joined pieces else after_separator pieces

-- without the spaces and tabs at the front
abbrev pub without_gaps : List ℕ → List ℕ
without_gaps line = drop (position_or_len (λ b. not (is_gap b)) line) line

-- a line that begins so says something: it is neither empty nor a comment
abbrev pub says_more : List ℕ → Bool
says_more [] = false
says_more (b ∷ bs) = not (b == 35)

-- a line that is not passed over: its first character past spaces and tabs is there, and no `#`
abbrev pub is_counted : List ℕ → Bool
is_counted line = says_more (without_gaps line)

-- the counted lines of these pieces, each behind its number, where n lines stand before them
abbrev pub counted_after : ℕ → List (List ℕ) → List (ℕ × List ℕ)
counted_after n [] = []
counted_after n (piece ∷ pieces) = if is_counted (line_of piece)
    then (n + 1, line_of piece) ∷ counted_after (n + 1) pieces else counted_after (n + 1) pieces

-- the counted lines of a schedule, each behind its number, from 1 at the first line
abbrev pub counted_lines : List ℕ → List (ℕ × List ℕ)
counted_lines text = counted_after 0 (pieces_of text)
