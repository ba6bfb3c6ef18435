use Rattle.std.proofs.Common.{◌≡◌, length, map, take}
use Rattle.gr_broker_relay.specs.Branch.{wanting_of}
use Rattle.gr_broker_relay.proofs.place.edge_of.Given as goal

-- the subscribers so far
abbrev pub invariant-subscribers : goal.invariant-subscribers
invariant-subscribers l = record {
  filters : l.edge ≡ map (wanting_of l.topo) (take l.s-index l.behind);
  count : length l.edge ≡ l.s-index;
}
