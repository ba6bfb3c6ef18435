-- What a reader of events answers: what a total function of its input gives, unless memory is refused
use Rattle.std.specs.Prelude.{◌≡◌, ℕ, List, Vec, Result, Ok, Err}
use Rattle.std.specs.declared.alloc.Global.{Global}
use Rattle.gr_event.specs.declared.value.Value.{Value}
use Rattle.gr_event.specs.declared.event.EventFault.{EventFault}
use Rattle.gr_event.specs.declared.event.EventFault.TheVariants as fault

abbrev pub Fails : {X : Type 0} → EventFault → Result X EventFault → Type 0
Fails fault.Memory read = Unit {0}
Fails e read = read ≡ Err e

-- the answer is what reading gives: its value, or its first fault. At want of memory this says nothing
abbrev pub Gives : {X : Type 0} → Result X EventFault → Result X EventFault → Type 0
Gives (Ok x) read = read ≡ Ok x
Gives (Err e) read = Fails e read

-- the same, where the answer is the vector of an event's pairs
abbrev pub GivesPairs : Result (Vec (List ℕ × Value) Global) EventFault → Result (List (List ℕ × Value)) EventFault
    → Type 0
GivesPairs (Ok v) read = read ≡ Ok v.items
GivesPairs (Err e) read = Fails e read

-- one step after another: the first fault ends it
infixl 10 ◌>>=◌
abbrev pub ◌>>=◌ : {A B : Type 0} → Result A EventFault → (A → Result B EventFault) → Result B EventFault
(Ok x) >>= f = f x
(Err e) >>= f = Err e
