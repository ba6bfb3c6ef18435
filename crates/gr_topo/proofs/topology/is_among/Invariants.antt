use Rattle.std.proofs.Common.{length, drop, nat_eq, ◌≡◌, ◌-◌}
use Rattle.std.specs.List.{list_any}
use Rattle.gr_topo.proofs.topology.is_among.Given as goal

abbrev pub invariant-places : goal.invariant-places
invariant-places l = list_any (λ x. nat_eq x l.s) (drop l.at l.places.items) ≡ list_any (λ x. nat_eq x l.s) l.places.items

abbrev pub decreases-places : goal.decreases-places
decreases-places l = length l.places.items - l.at
