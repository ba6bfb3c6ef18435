-- What a reader of a log answers: what a total function of the bytes gives, unless memory is refused
use Rattle.std.specs.Prelude.{◌≡◌, ℕ, Result, Ok, Err}
use Rattle.gr_publog.specs.declared.record.LogFault.{LogFault}
use Rattle.gr_publog.specs.declared.record.LogFault.TheVariants as fault

abbrev pub Fails : {X : Type 0} → LogFault → Result X ℕ → Type 0
Fails fault.Memory read = Unit {0}
Fails fault.Disk read = ⊥
Fails (fault.Damaged at) read = read ≡ Err at
Fails fault.Reopen read = ⊥

-- the answer is what reading gives: its value, or the place of its fault. At want of memory this says nothing
abbrev pub Gives : {X : Type 0} → Result X LogFault → Result X ℕ → Type 0
Gives (Ok x) read = read ≡ Ok x
Gives (Err e) read = Fails e read

-- the same of a reader of a disk: at want of memory, and where the disk failed, it says nothing
abbrev pub Tells : {X : Type 0} → LogFault → Result X ℕ → Type 0
Tells fault.Memory read = Unit {0}
Tells fault.Disk read = Unit {0}
Tells (fault.Damaged at) read = read ≡ Err at
Tells fault.Reopen read = ⊥

-- the answer is never that the log has to be opened again
abbrev pub IsNoReopen : {X : Type 0} → Result X LogFault → Type 0
IsNoReopen (Ok x) = Unit {0}
IsNoReopen (Err fault.Memory) = Unit {0}
IsNoReopen (Err fault.Disk) = Unit {0}
IsNoReopen (Err (fault.Damaged at)) = Unit {0}
IsNoReopen (Err fault.Reopen) = ⊥
