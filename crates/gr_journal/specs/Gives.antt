-- What a reader of journals answers: what a total function of the lines gives, unless memory is refused
use Rattle.std.specs.Prelude.{◌≡◌, Result, Ok, Err}
use Rattle.gr_journal.specs.declared.fault.AuditFault.{AuditFault}
use Rattle.gr_journal.specs.declared.fault.AuditFault.TheVariants as fault

-- first the one, then the other with what the first gave: the first fault ends it
infixl 10 ◌>>=◌
abbrev pub ◌>>=◌ : {A B : Type 0} → Result A AuditFault → (A → Result B AuditFault) → Result B AuditFault
(Ok x) >>= f = f x
(Err e) >>= f = Err e

abbrev pub Fails : {Y : Type 0} → AuditFault → Result Y AuditFault → Type 0
Fails fault.Memory read = Unit {0}
Fails e read = read ≡ Err e

-- the answer, seen by see, is what reading gives: its value, or its first fault. At want of memory this says nothing
abbrev pub Gives : {X Y : Type 0} → (X → Y) → Result X AuditFault → Result Y AuditFault → Type 0
Gives see (Ok x) read = read ≡ Ok (see x)
Gives see (Err e) read = Fails e read
