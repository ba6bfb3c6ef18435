-- so many places, and no broker at any
use Rattle.std.proofs.Common.{◌≡◌, replicate, None}
use Rattle.gr_node.proofs.node.no_brokers.Given as goal

abbrev pub invariant-places : goal.invariant-places
invariant-places l = l.places.items ≡ replicate l._broker None
