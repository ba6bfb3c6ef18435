-- What a reader of filters answers: what a total function of the text gives, unless memory is refused
use Rattle.std.specs.Prelude.{◌≡◌, ℕ, Result, Ok, Err}
use Rattle.gr_filter.specs.declared.fault.FilterFault.{FilterFault}
use Rattle.gr_filter.specs.declared.fault.FilterFault.TheVariants as fault
use Rattle.gr_filter.specs.declared.node.Node.{Node}
use Rattle.gr_filter.specs.Tree.{Tree, tree_of}

abbrev pub Fails : {X : Type 0} → FilterFault → Result X FilterFault → Type 0
Fails fault.Memory read = Unit {0}
Fails e read = read ≡ Err e

-- the answer, seen by view, is what reading gives: its value, or its first fault. At want of memory this says nothing
abbrev pub Gives : {X Y : Type 0} → (X → Y) → Result X FilterFault → Result Y FilterFault → Type 0
Gives view (Ok x) read = read ≡ Ok (view x)
Gives view (Err e) read = Fails e read

-- a node and the place behind it
abbrev pub as_tree : Node × ℕ → Tree × ℕ
as_tree r = (tree_of r.0, r.1)

abbrev pub as_it_is : {X : Type 0} → X → X
as_it_is x = x
