-- What a reader of notes answers: what a total function of the bytes gives, unless memory is refused
use Rattle.std.specs.Prelude.{◌≡◌, ℕ, Result, Ok, Err}
use Rattle.gr_note.specs.declared.fault.NoteKind.{NoteKind}
use Rattle.gr_note.specs.declared.fault.NoteKind.TheVariants as kind
use Rattle.gr_note.specs.declared.fault.NoteFault.{NoteFault}

-- a fault of a kind at a place
abbrev pub fault : NoteKind → ℕ → NoteFault
fault k at = record { kind = k; at = at }

-- no memory was given
abbrev pub out_of_memory : NoteFault
out_of_memory = record { kind = kind.Memory; at = 0 }

abbrev pub FailsAs : {X : Type 0} → NoteKind → ℕ → Result X NoteFault → Type 0
FailsAs kind.Memory at read = at ≡ 0
FailsAs k at read = read ≡ Err (fault k at)

-- the fault is that of reading. Want of memory has place 0, and says nothing else
abbrev pub Fails : {X : Type 0} → NoteFault → Result X NoteFault → Type 0
Fails f read = FailsAs f.kind f.at read

-- the answer is what reading gives: its value, or its first fault
abbrev pub Gives : {X : Type 0} → Result X NoteFault → Result X NoteFault → Type 0
Gives (Ok x) read = read ≡ Ok x
Gives (Err f) read = Fails f read

-- one step after another: the first fault ends it
infixl 10 ◌>>=◌
abbrev pub ◌>>=◌ : {A B : Type 0} → Result A NoteFault → (A → Result B NoteFault) → Result B NoteFault
(Ok x) >>= f = f x
(Err e) >>= f = Err e
