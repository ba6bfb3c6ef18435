use Rattle.std.proofs.Common.{◌≡◌, take}
use Rattle.gr_curio.specs.Wants.{runs_of}
use Rattle.gr_curio.proofs.children.copy_children.Given as goal

-- the children so far are copied
abbrev pub invariant-loop-child : goal.invariant-loop-child
invariant-loop-child l = runs_of l.copy.items ≡ take l.child-index (runs_of l.children)
