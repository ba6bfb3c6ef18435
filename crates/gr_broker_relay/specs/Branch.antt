-- Where a broker stands in a publisher's tree
use Rattle.std.specs.Prelude.{ℕ, Bool, nat_eq, if◌then◌else◌, List, map, Option, Some, None}
use Rattle.gr_edge.specs.Pass.{Wanting}
use Rattle.gr_topo.specs.Topology.{TopologyView, host_of, up_at, children_of, keeps_horizon_at, filter_of, late_of}
use Rattle.gr_topo.specs.Topology.{below_of}

-- the number of a subscriber, where it is late
abbrev pub late_number : TopologyView → ℕ → Option ℕ
late_number t s = if late_of t s then Some s else None

-- what a subscriber behind an edge wants
abbrev pub wanting_of : TopologyView → ℕ → Wanting
wanting_of t s = record { filter = filter_of t s; late = late_number t s }

-- what the subscribers at a broker and beyond it want
abbrev pub wantings_below : TopologyView → ℕ → ℕ → List Wanting
wantings_below t p b = map (wanting_of t) (below_of t p b)

-- where a broker stands in a publisher's tree
pub record Branch : Type 0 where
  pub host : Bool  -- whether the publisher is here
  pub up : Option ℕ  -- the next broker towards the host; the host has none
  pub keeps : Bool  -- whether a horizon is kept
  pub children : List ℕ  -- the next brokers away from the host, in order
  pub edges : List (List Wanting)  -- for each child what the subscribers at it and beyond want

-- where a broker stands in the tree of a publisher
abbrev pub branch_of : TopologyView → ℕ → ℕ → Branch
branch_of t b p = record {
  host = nat_eq (host_of t p) b;
  up = up_at t p b;
  keeps = keeps_horizon_at t p b;
  children = children_of t p b;
  edges = map (wantings_below t p) (children_of t p b);
}
