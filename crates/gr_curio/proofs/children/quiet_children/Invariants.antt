use Rattle.std.proofs.Common.{◌≡◌, ◌-◌, ◌≤◌, [], replicate}
use Rattle.gr_curio.specs.Wants.{runs_of}
use Rattle.gr_curio.proofs.children.quiet_children.Given as goal

-- so many are made
abbrev pub invariant-loop-made : goal.invariant-loop-made
invariant-loop-made l = record {
  upto : l.made ≤ l.count;
  quiet : runs_of l.children.items ≡ replicate l.made [];
}

abbrev pub decreases-loop-made : goal.decreases-loop-made
decreases-loop-made l = l.count - l.made
