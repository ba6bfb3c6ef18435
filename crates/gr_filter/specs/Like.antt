-- How a text fits a pattern: '%' stands for any characters, none included, and '_' for one character
use Rattle.std.specs.Prelude.{ℕ, ◌==◌, ◌&&◌, ◌||◌, nat_le, nat_lt, Bool, true, false, not, if◌then◌else◌, List, [], ◌∷◌}

-- a byte of UTF-8 that does not begin a character
abbrev pub continues : ℕ → Bool
continues c = nat_le 128 c && nat_lt c 192

-- what is left behind the bytes that go on with a character
abbrev pub after_character : List ℕ → List ℕ
after_character [] = []
after_character (c ∷ cs) = if continues c then after_character cs else c ∷ cs

-- one character, and the rest fits
abbrev pub one_character : (List ℕ → Bool) → List ℕ → Bool
one_character rest [] = false
one_character rest (c ∷ cs) = not (continues c) && rest (after_character cs)

-- what is left behind some front fits
abbrev pub any_front : (List ℕ → Bool) → List ℕ → Bool
any_front rest [] = rest []
any_front rest (c ∷ cs) = rest (c ∷ cs) || any_front rest cs

-- this byte, and the rest fits
abbrev pub same_byte : ℕ → (List ℕ → Bool) → List ℕ → Bool
same_byte p rest [] = false
same_byte p rest (c ∷ cs) = p == c && rest cs

abbrev pub is_nothing : List ℕ → Bool
is_nothing [] = true
is_nothing (c ∷ cs) = false

-- the text fits the pattern; 37 is '%', 95 is '_'
abbrev pub fits : List ℕ → List ℕ → Bool
fits [] text = is_nothing text
fits (p ∷ ps) text = if p == 37 then any_front (fits ps) text
    else (if p == 95 then one_character (fits ps) text else same_byte p (fits ps) text)
