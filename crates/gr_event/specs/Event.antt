-- Events as their lists of names and values: when two are the same, and their bytes
use Rattle.std.specs.Prelude.{ℕ, ◌+◌, ◌&&◌, Bool, true, false, if◌then◌else◌, List, [], ◌∷◌, ◌++◌, length, bytes_eq}
use Rattle.std.specs.Int.{to_be_bytes, cast_unsigned, w16, w64}
use Rattle.std.proofs.Common.{int_eq}
use Rattle.gr_event.specs.declared.value.Value.{Value}
use Rattle.gr_event.specs.declared.value.Value.TheVariants.{Int, Text, Bool as Truth}
use Rattle.gr_event.specs.declared.event.Event.{Event}

-- Equality

abbrev pub same_bool : Bool → Bool → Bool
same_bool true b = b
same_bool false true = false
same_bool false false = true

-- two values are the same
abbrev pub same_value : Value → Value → Bool
same_value (Int a) (Int b) = int_eq a b
same_value (Text a) (Text b) = bytes_eq a b
same_value (Truth a) (Truth b) = same_bool a b
same_value _ _ = false

-- two events have the same names with the same values
abbrev pub same_event : Event → Event → Bool
same_event [] [] = true
same_event (x ∷ xs) (y ∷ ys) = bytes_eq x.0 y.0 && same_value x.1 y.1 && same_event xs ys
same_event _ _ = false

-- The form in bytes: the count of pairs; for each its name's length and name, its kind and its value

abbrev pub value_size : Value → ℕ
value_size (Int n) = 8
value_size (Text t) = 2 + length t
value_size (Truth b) = 1

abbrev pub pairs_size : Event → ℕ
pairs_size [] = 0
pairs_size (p ∷ ps) = (2 + length p.0 + value_size p.1) + pairs_size ps

-- how many bytes an event has
abbrev pub event_size : Event → ℕ
event_size e = 1 + pairs_size e

abbrev pub value_bytes : Value → List ℕ
value_bytes (Int n) = 1 ∷ to_be_bytes w64 (cast_unsigned w64 n)
value_bytes (Text t) = 2 ∷ (to_be_bytes w16 (length t) ++ t)
value_bytes (Truth b) = 3 ∷ ((if b then 1 else 0) ∷ [])

abbrev pub pairs_bytes : Event → List ℕ
pairs_bytes [] = []
pairs_bytes (p ∷ ps) = (length p.0 ∷ p.0) ++ value_bytes p.1 ++ pairs_bytes ps

abbrev pub event_bytes : Event → List ℕ
event_bytes e = length e ∷ pairs_bytes e
