use Rattle.std.proofs.Common.{◌≡◌, ◌++◌, ◌-◌, length, nat_eq}
use Rattle.std.specs.List.{filter}
use Rattle.gr_tree.specs.Walks.{numbers_from}
use Rattle.gr_topo.specs.Topology.{home_of, subscribers_of}
use Rattle.gr_topo.proofs.topology.Topology.subscribers_at.Given as goal

abbrev pub invariant-loop-s : goal.invariant-loop-s
invariant-loop-s l = l.found ++ filter (λ s. nat_eq (home_of l.self s) l.b) (numbers_from l.s (length l.self.subscribers - l.s)) ≡ subscribers_of l.self l.b
