-- What a reader of topologies answers: what a total function of the text gives, unless memory is refused
use Rattle.std.specs.Prelude.{◌≡◌, List, [], ◌∷◌, ◌++◌, Result, Ok, Err}
use Rattle.gr_topo.specs.declared.fault.TopoFault.{TopoFault}
use Rattle.gr_topo.specs.declared.fault.TopoFault.TheVariants as fault

-- first the one, then the other with what the first gave: the first fault ends it
infixl 10 ◌>>=◌
abbrev pub ◌>>=◌ : {A B : Type 0} → Result A TopoFault → (A → Result B TopoFault) → Result B TopoFault
(Ok x) >>= f = f x
(Err e) >>= f = Err e

-- reading a list entry by entry, each with what was read so far
unfoldable pub walk : {S A : Type 0} → (S → A → Result S TopoFault) → S → List A → Result S TopoFault
walk step found [] = Ok found
walk step found (x ∷ xs) = step found x >>= λ next. walk step next xs

-- each of a list, read apart
abbrev pub one_more : {A B : Type 0} → (A → Result B TopoFault) → List B → A → Result (List B) TopoFault
one_more read found x = read x >>= λ y. Ok (found ++ y ∷ [])

abbrev pub each : {A B : Type 0} → (A → Result B TopoFault) → List A → Result (List B) TopoFault
each read xs = walk (one_more read) [] xs

-- ---- what a function answers

abbrev pub Fails : {Y : Type 0} → TopoFault → Result Y TopoFault → Type 0
Fails fault.Memory read = Unit {0}
Fails e read = read ≡ Err e

-- the answer, seen by see, is what reading gives: its value, or its first fault. At want of memory this says nothing
abbrev pub Gives : {X Y : Type 0} → (X → Y) → Result X TopoFault → Result Y TopoFault → Type 0
Gives see (Ok x) read = read ≡ Ok (see x)
Gives see (Err e) read = Fails e read
