-- What a reader of match texts answers: what a total function of the lines gives, unless memory is refused
use Rattle.std.specs.Prelude.{◌≡◌, Result, Ok, Err}
use Rattle.gr_match_text.specs.declared.fault.MatchFault.{MatchFault}
use Rattle.gr_match_text.specs.declared.fault.MatchFault.TheVariants as fault

-- first the one, then the other with what the first gave: the first fault ends it
infixl 10 ◌>>=◌
abbrev pub ◌>>=◌ : {A B : Type 0} → Result A MatchFault → (A → Result B MatchFault) → Result B MatchFault
(Ok x) >>= f = f x
(Err e) >>= f = Err e

abbrev pub Fails : {Y : Type 0} → MatchFault → Result Y MatchFault → Type 0
Fails fault.Memory read = Unit {0}
Fails e read = read ≡ Err e

-- the answer, seen by see, is what reading gives: its value, or its first fault. At want of memory this says nothing
abbrev pub Gives : {X Y : Type 0} → (X → Y) → Result X MatchFault → Result Y MatchFault → Type 0
Gives see (Ok x) read = read ≡ Ok (see x)
Gives see (Err e) read = Fails e read
