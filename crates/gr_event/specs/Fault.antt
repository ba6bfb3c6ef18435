-- The number and the word of each fault of events
use Rattle.std.specs.Prelude.{ℕ, List, codes}
use Rattle.gr_event.specs.declared.event.EventFault.{EventFault}
use Rattle.gr_event.specs.declared.event.EventFault.TheVariants as fault

-- want of memory has the number 0, and the faults of what is read those from 1 to 12
abbrev pub fault_number : EventFault → ℕ
fault_number fault.Memory = 0
fault_number fault.NotObject = 1
fault_number fault.BadName = 2
fault_number fault.BadValue = 3
fault_number fault.TooMany = 4
fault_number fault.TooLong = 5
fault_number (fault.Short at) = 6
fault_number (fault.BadKind at) = 7
fault_number (fault.NotSorted at) = 8
fault_number (fault.Trailing at) = 9
fault_number fault.NotJson = 10
fault_number (fault.BadText at) = 11
fault_number (fault.BadLength at) = 12

-- the word that a report prints, without the place
abbrev pub fault_word : EventFault → List ℕ
fault_word fault.Memory = codes "memory"
fault_word fault.NotObject = codes "not-object"
fault_word fault.BadName = codes "bad-name"
fault_word fault.BadValue = codes "bad-value"
fault_word fault.TooMany = codes "too-many"
fault_word fault.TooLong = codes "too-long"
fault_word (fault.Short at) = codes "short"
fault_word (fault.BadKind at) = codes "bad-kind"
fault_word (fault.NotSorted at) = codes "not-sorted"
fault_word (fault.Trailing at) = codes "trailing"
fault_word fault.NotJson = codes "not-json"
fault_word (fault.BadText at) = codes "bad-text"
fault_word (fault.BadLength at) = codes "bad-length"
