-- The number and the word of each fault of filters, and the place that a report prints
use Rattle.std.specs.Prelude.{ℕ, List, codes}
use Rattle.gr_filter.specs.declared.fault.FilterFault.{FilterFault}
use Rattle.gr_filter.specs.declared.fault.FilterFault.TheVariants as fault
use Rattle.gr_filter.specs.declared.parser.TheConstants.{MAX_FILTER_BYTES}

-- want of memory has the number 0, and the faults of a text those from 1 to 5
abbrev pub fault_number : FilterFault → ℕ
fault_number fault.Memory = 0
fault_number (fault.BadToken at) = 1
fault_number (fault.Expected at) = 2
fault_number (fault.TooDeep at) = 3
fault_number fault.TooLong = 4
fault_number (fault.NumberRange at) = 5

-- the word that a report prints
abbrev pub fault_word : FilterFault → List ℕ
fault_word fault.Memory = codes "memory"
fault_word (fault.BadToken at) = codes "bad-token"
fault_word (fault.Expected at) = codes "expected"
fault_word (fault.TooDeep at) = codes "too-deep"
fault_word fault.TooLong = codes "too-long"
fault_word (fault.NumberRange at) = codes "number-range"

-- the place that a report prints: for a text that is too long, the greatest length
abbrev pub fault_place : FilterFault → ℕ
fault_place fault.Memory = 0
fault_place (fault.BadToken at) = at
fault_place (fault.Expected at) = at
fault_place (fault.TooDeep at) = at
fault_place fault.TooLong = MAX_FILTER_BYTES
fault_place (fault.NumberRange at) = at
