use Rattle.std.proofs.Common.{◌≡◌, ◌++◌, ◌-◌, length, drop}
use Rattle.gr_topo.proofs.topology.Topology.lates.Given as goal

-- what is found, with what is left, is all
abbrev pub invariant-late : goal.invariant-late
invariant-late l = l.found ++ drop l.at l.late.items ≡ l.late.items

abbrev pub decreases-late : goal.decreases-late
decreases-late l = length l.late.items - l.at
