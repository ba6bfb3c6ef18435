use Rattle.std.proofs.Common.{◌≡◌, ◌++◌, ◌-◌, length}
use Rattle.std.specs.List.{filter}
use Rattle.gr_tree.specs.Walks.{numbers_from}
use Rattle.gr_journal.specs.Lines.{is_among, rising}
use Rattle.gr_journal.proofs.hosting.rising.Given as goal

abbrev pub invariant-brokers : goal.invariant-brokers
invariant-brokers l = l.found ++ filter (is_among l.fn.brokers) (numbers_from l.b (length l.fn.topo.brokers - l.b)) ≡ rising l.fn.topo l.fn.brokers
