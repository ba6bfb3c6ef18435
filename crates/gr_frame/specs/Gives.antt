-- What a reader of frames answers: what a total function of the bytes gives, unless memory is refused
use Rattle.std.specs.Prelude.{◌≡◌, ℕ, Result, Ok, Err}
use Rattle.gr_frame.specs.declared.fault.FrameKind.{FrameKind}
use Rattle.gr_frame.specs.declared.fault.FrameKind.TheVariants as kind
use Rattle.gr_frame.specs.declared.fault.FrameFault.{FrameFault}

-- a fault of a kind at a place
abbrev pub fault : FrameKind → ℕ → FrameFault
fault k at = record { kind = k; at = at }

-- no memory was given
abbrev pub out_of_memory : FrameFault
out_of_memory = record { kind = kind.Memory; at = 0 }

abbrev pub FailsAs : {X : Type 0} → FrameKind → ℕ → Result X FrameFault → Type 0
FailsAs kind.Memory at read = at ≡ 0
FailsAs k at read = read ≡ Err (fault k at)

-- the fault is that of reading. Want of memory has place 0, and says nothing else
abbrev pub Fails : {X : Type 0} → FrameFault → Result X FrameFault → Type 0
Fails f read = FailsAs f.kind f.at read

-- the answer is what reading gives: its value, or its first fault
abbrev pub Gives : {X : Type 0} → Result X FrameFault → Result X FrameFault → Type 0
Gives (Ok x) read = read ≡ Ok x
Gives (Err f) read = Fails f read

-- one step after another: the first fault ends it
infixl 10 ◌>>=◌
abbrev pub ◌>>=◌ : {A B : Type 0} → Result A FrameFault → (A → Result B FrameFault) → Result B FrameFault
(Ok x) >>= f = f x
(Err e) >>= f = Err e
