use Rattle.std.proofs.Common.{◌≡◌, ◌-◌, length}
use Rattle.std.specs.List.{list_all}
use Rattle.gr_tree.specs.Walks.{numbers, numbers_from}
use Rattle.gr_journal.specs.Lines.{is_among}
use Rattle.gr_journal.proofs.hosting.are_all_among.Given as goal

abbrev pub invariant-brokers : goal.invariant-brokers
invariant-brokers l = list_all (is_among l.fn.named) (numbers_from l.b (length l.fn.topo.brokers - l.b)) ≡ list_all (is_among l.fn.named) (numbers (length l.fn.topo.brokers))
