-- The number and the word of each fault of schedules
use Rattle.std.specs.Prelude.{ℕ, List, codes}
use Rattle.gr_sched.specs.declared.fault.StepFault.{StepFault}
use Rattle.gr_sched.specs.declared.fault.StepFault.TheVariants as fault

-- want of memory has the number 0, and the faults of what is read those from 1 to 4
abbrev pub fault_number : StepFault → ℕ
fault_number fault.Memory = 0
fault_number (fault.BadWord line) = 1
fault_number (fault.BadNumber line) = 2
fault_number (fault.BadEvent line event) = 3
fault_number (fault.TooMany line) = 4

-- the word that a report prints, without the line
abbrev pub fault_word : StepFault → List ℕ
fault_word fault.Memory = codes "memory"
fault_word (fault.BadWord line) = codes "bad-word"
fault_word (fault.BadNumber line) = codes "bad-number"
fault_word (fault.BadEvent line event) = codes "bad-event"
fault_word (fault.TooMany line) = codes "too-many"
