use Rattle.std.proofs.Common.{◌≡◌, map}
use Rattle.std.specs.List.{AllByRecursion}
use Rattle.gr_model.specs.Net.{numbers}
use Rattle.gr_broker_relay.specs.Branch.{branch_of}
use Rattle.gr_broker_relay.specs.Held.{seen_branch, HasEdges}
use Rattle.gr_broker_relay.specs.Positions.{AreEdges}
use Rattle.gr_broker_relay.proofs.place.positions_at.Given as goal

-- the publishers so far
abbrev pub invariant-publishers : goal.invariant-publishers
invariant-publishers l = record {
  edges : AreEdges l.topo l.table;
  branches : map (seen_branch l.table.edges.items) l.positions.items ≡ map (branch_of l.topo l.b) (numbers l.p);
  each : AllByRecursion (HasEdges l.table.edges.items) l.positions.items;
}
