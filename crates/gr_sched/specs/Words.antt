-- The words of a line and its numbers, with the fault of a word that does not fit
use Rattle.std.specs.Prelude.{◌≡◌, ℕ, ◌+◌, ◌-◌, ◌*◌, ◌&&◌, nat_le, nat_lt, Bool, if◌then◌else◌, List, [], ◌∷◌, length}
use Rattle.std.specs.Prelude.{reverse, drop, take, Option, None, Some, Result, Ok, Err}
use Rattle.std.specs.List.{list_all, position_or_len}
use Rattle.gr_sched.specs.declared.fault.StepFault.{StepFault}
use Rattle.gr_sched.specs.declared.fault.StepFault.TheVariants.{Memory, BadWord, BadNumber}
use Rattle.gr_sched.specs.Text.{is_gap, without_gaps}

-- ---- one fault after the other

-- first the one, then the other with what the first gave
infixl 10 ◌>>=◌
abbrev pub ◌>>=◌ : {A B : Type 0} → Result A StepFault → (A → Result B StepFault) → Result B StepFault
(Ok x) >>= f = f x
(Err e) >>= f = Err e

-- what a function answered, seen by view, is what reading gives, unless memory ran out
abbrev pub Gives : {X Y : Type 0} → (X → Y) → Result X StepFault → Result Y StepFault → Type 0
Gives view (Ok x) read = read ≡ Ok (view x)
Gives view (Err Memory) read = Unit {0}
Gives view (Err e) read = read ≡ Err e

-- ---- words

-- a text without the spaces and tabs at its end
abbrev pub trimmed_end : List ℕ → List ℕ
trimmed_end text = reverse (without_gaps (reverse text))

-- a line without the spaces and tabs at both ends
abbrev pub trimmed : List ℕ → List ℕ
trimmed line = trimmed_end (without_gaps line)

-- the first word
abbrev pub first_word : List ℕ → List ℕ
first_word text = take (position_or_len is_gap text) text

-- what follows the first word and the spaces and tabs behind it
abbrev pub after_word : List ℕ → List ℕ
after_word text = without_gaps (drop (position_or_len is_gap text) text)

-- the next word of line n with what follows it; a missing word is a fault
abbrev pub next_word : ℕ → List ℕ → Result (List ℕ × List ℕ) StepFault
next_word n [] = Err (BadWord n)
next_word n (b ∷ bs) = Ok (first_word (b ∷ bs), after_word (b ∷ bs))

-- nothing may follow: a word too many is a fault
abbrev pub ended : {A : Type 0} → ℕ → List ℕ → A → Result A StepFault
ended n [] x = Ok x
ended n (b ∷ bs) x = Err (BadWord n)

-- a name that is known
abbrev pub known : {A : Type 0} → ℕ → Option A → Result A StepFault
known n None = Err (BadWord n)
known n (Some x) = Ok x

-- ---- numbers

abbrev pub is_digit : ℕ → Bool
is_digit b = nat_le 48 b && nat_le b 57

-- 1 to 19 digits
abbrev pub is_number : List ℕ → Bool
is_number word = nat_lt 0 (length word) && nat_le (length word) 19 && list_all is_digit word

-- the value of digits that follow others
abbrev pub value_after : ℕ → List ℕ → ℕ
value_after value [] = value
value_after value (b ∷ bs) = value_after (value * 10 + (b - 48)) bs

-- a word is a number of at most so many digits, from low to high
abbrev pub is_number_in : ℕ → ℕ → ℕ → List ℕ → Bool
is_number_in digits low high word = nat_le (length word) digits && is_number word && nat_le low (value_after 0 word)
    && nat_le (value_after 0 word) high

-- a word as a number from low to high
abbrev pub number_in : ℕ → ℕ → ℕ → List ℕ → Result ℕ StepFault
number_in n low high word = if is_number word && nat_le low (value_after 0 word) && nat_le (value_after 0 word) high
    then Ok (value_after 0 word) else Err (BadNumber n)

-- the next word as a number from low to high, with what follows it
abbrev pub next_number : ℕ → ℕ → ℕ → List ℕ → Result (ℕ × List ℕ) StepFault
next_number n low high text = do
  word ← next_word n text
  value ← number_in n low high word.0
  Ok (value, word.1)
