-- Reading a note field by field, with the place of the first fault
use Rattle.std.specs.Prelude.{ℕ, ◌+◌, ◌==◌, ◌||◌, nat_lt, nat_le, bytes_eq, if◌then◌else◌, List, length, slice_index}
use Rattle.std.specs.Prelude.{slice_range, Result, Ok, Err}
use Rattle.std.specs.Int.{from_be_bytes, w16, w64}
use Rattle.gr_event.specs.declared.event.Event.{Event}
use Rattle.gr_event.specs.declared.event.EventFault.{EventFault}
use Rattle.gr_event.specs.declared.event.EventFault.TheVariants as event_fault
use Rattle.gr_event.specs.Decode.{event_decoded}
use Rattle.gr_note.specs.declared.TheConstants.{MAX_NUMBER, VERSION, SUBMIT, NEXT, SPENT}
use Rattle.gr_note.specs.declared.note.Note.{Note}
use Rattle.gr_note.specs.declared.note.Note.TheVariants.{Submit, Next, Spent}
use Rattle.gr_note.specs.declared.fault.NoteKind.TheVariants.{Short, BadMagic, BadVersion, BadKind, BadRange, BadEvent}
use Rattle.gr_note.specs.declared.fault.NoteKind.TheVariants.{Trailing}
use Rattle.gr_note.specs.declared.fault.NoteFault.{NoteFault}
use Rattle.gr_note.specs.Bytes.{letters}
use Rattle.gr_note.specs.Gives.{fault, out_of_memory, ◌>>=◌}

-- Fields

-- n bytes from a place on
abbrev pub field_at : List ℕ → ℕ → ℕ → Result (List ℕ) NoteFault
field_at bytes at n =
    if nat_le (at + n) (length bytes) then Ok (slice_range bytes at (at + n)) else Err (fault Short (length bytes))

-- the byte at a place
abbrev pub byte_at : List ℕ → ℕ → Result ℕ NoteFault
byte_at bytes at = if nat_lt at (length bytes) then Ok (slice_index bytes at) else Err (fault Short (length bytes))

-- the number of two bytes at a place
abbrev pub u16_at : List ℕ → ℕ → Result ℕ NoteFault
u16_at bytes at = field_at bytes at 2 >>= λ f. Ok (from_be_bytes w16 f)

-- the number of eight bytes at a place
abbrev pub u64_at : List ℕ → ℕ → Result ℕ NoteFault
u64_at bytes at = field_at bytes at 8 >>= λ f. Ok (from_be_bytes w64 f)

-- the number at a place, from 1 up to the greatest one
unfoldable pub number_at : List ℕ → ℕ → ℕ → Result ℕ NoteFault
number_at bytes at most = u64_at bytes at >>= λ n. if nat_lt n 1 || nat_lt most n then Err (fault BadRange at) else Ok n

-- the fault of a note whose event at a place does not decode
abbrev pub event_refused : ℕ → EventFault → NoteFault
event_refused at event_fault.Memory = out_of_memory
event_refused at _ = fault BadEvent at

-- the event that stood at a place
abbrev pub event_of : ℕ → Result Event EventFault → Result Event NoteFault
event_of at (Ok e) = Ok e
event_of at (Err f) = Err (event_refused at f)

-- an event of so many bytes at a place
unfoldable pub event_at : List ℕ → ℕ → ℕ → Result Event NoteFault
event_at bytes at size = field_at bytes at size >>= λ f. event_of at (event_decoded f)

-- Notes

-- a note that was read up to a place, and then nothing
abbrev pub ended : List ℕ → ℕ → Note → Result Note NoteFault
ended bytes at n = if at == length bytes then Ok n else Err (fault Trailing at)

-- a Submit behind its kind
unfoldable pub submit_at : List ℕ → Result Note NoteFault
submit_at bytes = do
  publisher ← u16_at bytes 4
  number ← number_at bytes 6 MAX_NUMBER
  size ← u16_at bytes 14
  event ← event_at bytes 16 size
  ended bytes (16 + size) (Submit publisher number event)

-- a Next behind its kind
unfoldable pub next_at : List ℕ → Result Note NoteFault
next_at bytes = do
  publisher ← u16_at bytes 4
  next ← number_at bytes 6 (MAX_NUMBER + 1)
  ended bytes 14 (Next publisher next)

-- a Spent behind its kind
unfoldable pub spent_at : List ℕ → Result Note NoteFault
spent_at bytes = u16_at bytes 4 >>= λ publisher. ended bytes 6 (Spent publisher)

-- the letters GP, the version and the kind
unfoldable pub kind_at : List ℕ → Result ℕ NoteFault
kind_at bytes = do
  found ← field_at bytes 0 2
  version ← if bytes_eq found letters then byte_at bytes 2 else Err (fault BadMagic 0)
  if version == VERSION then byte_at bytes 3 else Err (fault BadVersion 2)

-- what stands behind its kind
abbrev pub note_of_kind : List ℕ → ℕ → Result Note NoteFault
note_of_kind bytes k =
    if k == SUBMIT then submit_at bytes
    else (if k == NEXT then next_at bytes
    else (if k == SPENT then spent_at bytes
    else Err (fault BadKind 3)))

-- the note that the bytes spell, or the first fault
unfoldable pub note_decoded : List ℕ → Result Note NoteFault
note_decoded bytes = kind_at bytes >>= note_of_kind bytes
