use Rattle.std.proofs.Common.{◌≡◌, ◌++◌, ◌-◌, length}
use Rattle.std.specs.List.{filter}
use Rattle.gr_tree.specs.Walks.{numbers_from}
use Rattle.gr_topo.specs.Topology.{home_of, passes_by, below_of}
use Rattle.gr_topo.proofs.topology.Topology.below.Given as goal

abbrev pub invariant-loop-s : goal.invariant-loop-s
invariant-loop-s l = l.found ++ filter (λ s. passes_by l.self l.p l.b (home_of l.self s)) (numbers_from l.s (length l.self.subscribers - l.s)) ≡ below_of l.self l.p l.b
