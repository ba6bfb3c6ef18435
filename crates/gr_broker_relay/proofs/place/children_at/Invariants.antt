use Rattle.std.proofs.Common.{◌≡◌, ◌<◌, [], length, map, get_or, take}
use Rattle.std.specs.List.{AllByRecursion}
use Rattle.gr_broker_relay.specs.Branch.{wantings_below}
use Rattle.gr_broker_relay.specs.Positions.{AreEdges, Keeps}
use Rattle.gr_broker_relay.proofs.place.children_at.Given as goal

-- the children so far
abbrev pub invariant-children : goal.invariant-children
invariant-children l = record {
  edges : AreEdges l.topo l.table;
  keeps : Keeps l.initial.table.edges.items l.table.edges.items;
  numbers : map (λ c. c.number) l.children.items ≡ take l.number-index l.number-items;
  behind : map (λ c. get_or l.table.edges.items c.edge []) l.children.items ≡ map (wantings_below l.topo l.p) (take l.number-index l.number-items);
  each : AllByRecursion (λ c. c.edge < length l.table.edges.items) l.children.items;
}
