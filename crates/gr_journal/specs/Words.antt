-- The words of a journal's line: between any two stands one space
use Rattle.std.specs.Prelude.{ℕ, ◌+◌, ◌-◌, ◌*◌, ◌/◌, ◌%◌, ◌==◌, ◌&&◌, ◌||◌, min, Bool, nat_eq, nat_le, nat_lt}
use Rattle.std.specs.Prelude.{if◌then◌else◌, List, [], ◌∷◌, codes, length, Option, Some, None, bytes_eq, slice_index}
use Rattle.std.specs.List.{list_all, flat_map}
use Rattle.gr_sched.specs.declared.step.TheConstants.{MAX_NUMBER}
use Rattle.gr_sched.specs.Text.{longer}
use Rattle.gr_sched.specs.Words.{is_number, value_after}

abbrev pub is_space : ℕ → Bool
is_space b = b == 32

-- a line cut at each space
abbrev pub words_of : List ℕ → List (List ℕ)
words_of [] = [] ∷ []
words_of (b ∷ bs) = if is_space b then [] ∷ words_of bs else longer b (words_of bs)

-- the words of what stands behind a space, if there is one
abbrev pub more_words : Option (List ℕ) → List (List ℕ)
more_words None = []
more_words (Some text) = words_of text

-- the one word that is left
abbrev pub only_word : List (List ℕ) → Option (List ℕ)
only_word [] = None
only_word (word ∷ []) = Some word
only_word (word ∷ next ∷ words) = None

-- Moments

-- a moment has 1 to 19 digits, and one past the greatest stands as the greatest
abbrev pub moment_of : List ℕ → Option ℕ
moment_of word = if is_number word then Some (min (value_after 0 word) MAX_NUMBER) else None

-- Bytes

-- 0 to 9 and a to f
abbrev pub is_hex_digit : ℕ → Bool
is_hex_digit b = (nat_le 48 b && nat_le b 57) || (nat_le 97 b && nat_le b 102)

-- pairs of digits, one or more
abbrev pub is_hex : List ℕ → Bool
is_hex word = nat_lt 0 (length word) && (length word % 2 == 0) && list_all is_hex_digit word

abbrev pub digit_value : ℕ → ℕ
digit_value b = if nat_le 48 b && nat_le b 57 then b - 48 else if nat_le 97 b && nat_le b 102 then b - 87 else 0

-- the bytes of pairs of digits
abbrev pub hex_bytes : List ℕ → List ℕ
hex_bytes [] = []
hex_bytes (high ∷ []) = []
hex_bytes (high ∷ low ∷ word) = (digit_value high * 16 + digit_value low) ∷ hex_bytes word

-- the bytes of a datagram: `-` stands for none
abbrev pub datagram_of : List ℕ → Option (List ℕ)
datagram_of word = if bytes_eq word (codes "-") then Some [] else if is_hex word then Some (hex_bytes word) else None

-- a byte as two digits
abbrev pub hex_pair : ℕ → List ℕ
hex_pair byte =
    slice_index (codes "0123456789abcdef") (byte / 16) ∷ slice_index (codes "0123456789abcdef") (byte % 16) ∷ []

-- the word of a datagram's bytes
abbrev pub datagram_word : List ℕ → List ℕ
datagram_word bytes = if nat_eq (length bytes) 0 then codes "-" else flat_map hex_pair bytes
