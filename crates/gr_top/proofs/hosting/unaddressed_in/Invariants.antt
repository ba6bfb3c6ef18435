use Rattle.std.proofs.Common.{◌≡◌, ◌-◌, length, find}
use Rattle.gr_tree.specs.Walks.{numbers_from, numbers}
use Rattle.gr_top.specs.Hosting.{is_unaddressed}
use Rattle.gr_top.proofs.hosting.unaddressed_in.Given as goal

-- the first broker without an address is among those that are left
abbrev pub invariant-brokers : goal.invariant-brokers
invariant-brokers l =
    find (is_unaddressed l.topo) (numbers_from l.b (length l.topo.brokers - l.b)) ≡ find (is_unaddressed l.topo) (numbers (length l.topo.brokers))
