use Rattle.std.proofs.Common.{◌≡◌, ◌-◌, length}
use Rattle.std.specs.List.{filter}
use Rattle.gr_tree.specs.Walks.{numbers_from}
use Rattle.gr_topo.specs.Topology.{is_child_at, children_of}
use Rattle.gr_topo.proofs.topology.Topology.has_child.Given as goal

abbrev pub invariant-loop-c : goal.invariant-loop-c
invariant-loop-c l = filter (is_child_at l.self l.p l.b) (numbers_from l.c (length l.self.brokers - l.c)) ≡ children_of l.self l.p l.b
