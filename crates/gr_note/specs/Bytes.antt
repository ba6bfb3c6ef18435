-- The bytes of a note, and how many they are
use Rattle.std.specs.Prelude.{ℕ, ◌+◌, Bool, nat_eq, List, [], ◌∷◌, ◌++◌}
use Rattle.std.specs.List.{starts_with}
use Rattle.std.specs.Int.{to_be_bytes, w16, w64}
use Rattle.gr_event.specs.Event.{event_size, event_bytes}
use Rattle.gr_note.specs.declared.TheConstants.{VERSION, SUBMIT, NEXT, SPENT}
use Rattle.gr_note.specs.declared.note.Note.{Note}
use Rattle.gr_note.specs.declared.note.Note.TheVariants.{Submit, Next, Spent}

-- GP
abbrev pub letters : List ℕ
letters = 71 ∷ (80 ∷ [])

-- whether a datagram is to be read as a note
abbrev pub begins_note : List ℕ → Bool
begins_note bytes = starts_with nat_eq bytes letters

-- the letters, the version, the kind and the publisher
abbrev pub head_bytes : ℕ → ℕ → List ℕ
head_bytes kind publisher = letters ++ (VERSION ∷ (kind ∷ to_be_bytes w16 publisher))

-- the bytes of a note
unfoldable pub note_bytes : Note → List ℕ
note_bytes (Submit publisher number event) =
    head_bytes SUBMIT publisher ++ (to_be_bytes w64 number ++ (to_be_bytes w16 (event_size event) ++ event_bytes event))
note_bytes (Next publisher next) = head_bytes NEXT publisher ++ to_be_bytes w64 next
note_bytes (Spent publisher) = head_bytes SPENT publisher

-- how many bytes a note has
abbrev pub note_size : Note → ℕ
note_size (Submit publisher number event) = 16 + event_size event
note_size (Next publisher next) = 14
note_size (Spent publisher) = 6
