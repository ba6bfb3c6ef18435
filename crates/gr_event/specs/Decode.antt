-- Reading the form in bytes, field by field, with the place of the first fault
use Rattle.std.specs.Prelude.{ℕ, zero, suc, ◌+◌, ◌==◌, ◌||◌, nat_lt, nat_le, if◌then◌else◌, true, false, List, [], ◌∷◌}
use Rattle.std.specs.Prelude.{length, slice_index, slice_range, Result, Ok, Err}
use Rattle.std.specs.Int.{from_be_bytes, cast_signed, w16, w64}
use Rattle.std.specs.Str.{is_utf8}
use Rattle.std.specs.Ordering.{nat_cmp, is_lt}
use Rattle.std.specs.Cmp.Lexicographic.{slice_cmp}
use Rattle.gr_event.specs.declared.limits.TheConstants.{MAX_PAIRS, MAX_NAME, MAX_TEXT, MAX_EVENT_BYTES}
use Rattle.gr_event.specs.declared.value.Value.{Value}
use Rattle.gr_event.specs.declared.value.Value.TheVariants.{Int, Text, Bool as Truth}
use Rattle.gr_event.specs.declared.event.Event.{Event}
use Rattle.gr_event.specs.declared.event.EventFault.{EventFault}
use Rattle.gr_event.specs.declared.event.EventFault.TheVariants as fault
use Rattle.gr_event.specs.Event.{value_size}
use Rattle.gr_event.specs.Gives.{◌>>=◌}

-- the byte at a place
abbrev pub byte_at : List ℕ → ℕ → Result ℕ EventFault
byte_at bytes at = if nat_lt at (length bytes) then Ok (slice_index bytes at) else Err (fault.Short (length bytes))

-- n bytes from a place on
abbrev pub field_at : List ℕ → ℕ → ℕ → Result (List ℕ) EventFault
field_at bytes at n = if nat_le (at + n) (length bytes) then Ok (slice_range bytes at (at + n))
    else Err (fault.Short (length bytes))

-- what was read at a place is UTF-8
abbrev pub text_at : ℕ → List ℕ → Result (List ℕ) EventFault
text_at at t = if is_utf8 t then Ok t else Err (fault.BadText at)

-- a name that was read at a place is above the one before
abbrev pub risen_at : ℕ → List ℕ → List ℕ → Result (List ℕ) EventFault
risen_at at before name = if is_lt (slice_cmp nat_cmp before name) then Ok name else Err (fault.NotSorted at)

-- the name behind its length n
unfoldable pub name_of_length : List ℕ → ℕ → List ℕ → ℕ → Result (List ℕ) EventFault
name_of_length bytes at before n = if n == 0 || nat_lt MAX_NAME n then Err (fault.BadLength at)
    else (field_at bytes (at + 1) n >>= text_at (at + 1) >>= risen_at (at + 1) before)

-- a length and the name
unfoldable pub name_at : List ℕ → ℕ → List ℕ → Result (List ℕ) EventFault
name_at bytes at before = byte_at bytes at >>= name_of_length bytes at before

-- the text behind its length n
unfoldable pub text_of_length : List ℕ → ℕ → ℕ → Result Value EventFault
text_of_length bytes at n = if nat_lt MAX_TEXT n then Err (fault.BadLength at)
    else (field_at bytes (at + 2) n >>= text_at (at + 2) >>= λ t. Ok (Text t))

abbrev pub truth_of : ℕ → ℕ → Result Value EventFault
truth_of at b = if b == 0 then Ok (Truth false) else (if b == 1 then Ok (Truth true) else Err (fault.BadKind at))

unfoldable pub integer_at : List ℕ → ℕ → Result Value EventFault
integer_at bytes at = field_at bytes at 8 >>= λ f. Ok (Int (cast_signed w64 (from_be_bytes w64 f)))

unfoldable pub text_value_at : List ℕ → ℕ → Result Value EventFault
text_value_at bytes at = field_at bytes at 2 >>= λ f. text_of_length bytes at (from_be_bytes w16 f)

unfoldable pub truth_at : List ℕ → ℕ → Result Value EventFault
truth_at bytes at = byte_at bytes at >>= truth_of at

-- the value behind its kind
unfoldable pub value_of_kind : List ℕ → ℕ → ℕ → Result Value EventFault
value_of_kind bytes at kind =
    if kind == 1 then integer_at bytes (at + 1)
    else (if kind == 2 then text_value_at bytes (at + 1)
    else (if kind == 3 then truth_at bytes (at + 1)
    else Err (fault.BadKind at)))

-- a kind and the value
unfoldable pub value_at : List ℕ → ℕ → Result Value EventFault
value_at bytes at = byte_at bytes at >>= value_of_kind bytes at

-- n pairs from a place on, each name above the one before, and then nothing
unfoldable pub pairs_at : List ℕ → ℕ → ℕ → List ℕ → Result Event EventFault
pairs_at bytes zero at before = if at == length bytes then Ok [] else Err (fault.Trailing at)
pairs_at bytes (suc n) at before = do
  name ← name_at bytes at before
  value ← value_at bytes (at + 1 + length name)
  rest ← pairs_at bytes n (at + 2 + length name + value_size value) name
  Ok ((name, value) ∷ rest)

-- the pairs behind their count
abbrev pub pairs_of_count : List ℕ → ℕ → Result Event EventFault
pairs_of_count bytes n = if nat_lt MAX_PAIRS n then Err (fault.BadLength 0) else pairs_at bytes n 1 []

-- the event that the bytes spell, or the first fault. No name is below the empty one
unfoldable pub event_decoded : List ℕ → Result Event EventFault
event_decoded bytes = if nat_lt MAX_EVENT_BYTES (length bytes) then Err fault.TooLong
    else (byte_at bytes 0 >>= pairs_of_count bytes)
