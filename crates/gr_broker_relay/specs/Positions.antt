-- Where a broker stands in the trees of all publishers, worked out once
use Rattle.std.specs.Prelude.{◌≡◌, ℕ, ◌<◌, ◌≤◌, List, [], length, map, get_or}
use Rattle.gr_edge.specs.Pass.{Wanting}
use Rattle.gr_topo.specs.Topology.{TopologyView}
use Rattle.gr_broker_relay.specs.Branch.{wanting_of}
use Rattle.gr_broker_relay.specs.declared.place.EdgeTable.{EdgeTable}

-- each edge has what the subscribers behind it want
abbrev pub AreEdges : TopologyView → EdgeTable → Type 0
AreEdges t table = table.edges.items ≡ map (map (wanting_of t)) table.behind.items

-- the edges that were there are there still
pub record Keeps (before after : List (List Wanting)) : Type 0 where
  pub no_fewer : length before ≤ length after
  pub same : (i : ℕ) → i < length before → get_or after i [] ≡ get_or before i []
