-- The number and the word of each fault of notes
use Rattle.std.specs.Prelude.{ℕ, List, [], ◌∷◌, codes}
use Rattle.gr_note.specs.declared.fault.NoteKind.{NoteKind}
use Rattle.gr_note.specs.declared.fault.NoteKind.TheVariants as kind

-- want of memory has the number 0, and the faults of what is read those from 1 to 7
abbrev pub fault_number : NoteKind → ℕ
fault_number kind.Memory = 0
fault_number kind.Short = 1
fault_number kind.BadMagic = 2
fault_number kind.BadVersion = 3
fault_number kind.BadKind = 4
fault_number kind.BadRange = 5
fault_number kind.BadEvent = 6
fault_number kind.Trailing = 7

-- the word that a report prints, without the place
abbrev pub fault_word : NoteKind → List ℕ
fault_word kind.Memory = codes "memory"
fault_word kind.Short = codes "short"
fault_word kind.BadMagic = codes "bad-magic"
fault_word kind.BadVersion = codes "bad-version"
fault_word kind.BadKind = codes "bad-kind"
fault_word kind.BadRange = codes "bad-range"
fault_word kind.BadEvent = codes "bad-event"
fault_word kind.Trailing = codes "trailing"

-- the faults in the order of their numbers
abbrev pub fault_kinds : List NoteKind
fault_kinds = kind.Memory ∷ kind.Short ∷ kind.BadMagic ∷ kind.BadVersion ∷ kind.BadKind ∷ kind.BadRange
    ∷ kind.BadEvent ∷ kind.Trailing ∷ []
