-- The number and the word of each fault of frames
use Rattle.std.specs.Prelude.{ℕ, List, [], ◌∷◌, codes}
use Rattle.gr_frame.specs.declared.fault.FrameKind.{FrameKind}
use Rattle.gr_frame.specs.declared.fault.FrameKind.TheVariants as kind

-- want of memory has the number 0, and the faults of what is read those from 1 to 10
abbrev pub fault_number : FrameKind → ℕ
fault_number kind.Memory = 0
fault_number kind.Short = 1
fault_number kind.BadMagic = 2
fault_number kind.BadVersion = 3
fault_number kind.BadKind = 4
fault_number kind.BadRange = 5
fault_number kind.BadOrder = 6
fault_number kind.BadEvent = 7
fault_number kind.Trailing = 8
fault_number kind.TooLong = 9
fault_number kind.BadJoins = 10

-- the word that a report prints, without the place
abbrev pub fault_word : FrameKind → List ℕ
fault_word kind.Memory = codes "memory"
fault_word kind.Short = codes "short"
fault_word kind.BadMagic = codes "bad-magic"
fault_word kind.BadVersion = codes "bad-version"
fault_word kind.BadKind = codes "bad-kind"
fault_word kind.BadRange = codes "bad-range"
fault_word kind.BadOrder = codes "bad-order"
fault_word kind.BadEvent = codes "bad-event"
fault_word kind.Trailing = codes "trailing"
fault_word kind.TooLong = codes "too-long"
fault_word kind.BadJoins = codes "bad-joins"

-- the faults in the order of their numbers
abbrev pub fault_kinds : List FrameKind
fault_kinds = kind.Memory ∷ kind.Short ∷ kind.BadMagic ∷ kind.BadVersion ∷ kind.BadKind ∷ kind.BadRange ∷ kind.BadOrder
    ∷ kind.BadEvent ∷ kind.Trailing ∷ kind.TooLong ∷ kind.BadJoins ∷ []
