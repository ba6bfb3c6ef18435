use Rattle.std.proofs.Common.{◌≡◌, ◌++◌, ◌-◌, length}
use Rattle.std.specs.List.{flat_map}
use Rattle.gr_tree.specs.Walks.{numbers_from}
use Rattle.gr_topo.specs.Topology.{name_at}
use Rattle.gr_journal.specs.Lines.{rising, behind_space, name_if_among}
use Rattle.gr_journal.proofs.spelling.push_brokers.Given as goal

abbrev pub invariant-brokers : goal.invariant-brokers
invariant-brokers l = l.text ++ flat_map (name_if_among l.fn.topo l.fn.brokers) (numbers_from l.b (length l.fn.topo.brokers - l.b))
    ≡ l.fn.text ++ flat_map (λ b. behind_space (name_at l.fn.topo.brokers b)) (rising l.fn.topo l.fn.brokers)
