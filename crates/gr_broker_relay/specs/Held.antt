-- What a broker keeps in memory, as the machine sees it
use Rattle.std.specs.Prelude.{◌≡◌, ◌<◌, List, [], length, map, get_or}
use Rattle.std.specs.List.{AllByRecursion}
use Rattle.gr_curio.specs.Wants.{runs_of}
use Rattle.gr_edge.specs.Pass.{Wanting}
use Rattle.gr_topo.specs.Topology.{TopologyView, subscribers_of}
use Rattle.gr_model.specs.Net.{Net, numbers}
use Rattle.gr_model.specs.NetOf.{net_of}
use Rattle.gr_model.specs.Broker.{View, seen}
use Rattle.gr_broker_relay.specs.declared.held.Held.{Held}
use Rattle.gr_broker_relay.specs.declared.place.Position.{Position}
use Rattle.gr_broker_relay.specs.declared.site.Seat.{Seat}
use Rattle.gr_broker_relay.specs.declared.site.Site.{Site}
use Rattle.gr_broker_relay.specs.Branch.{Branch, branch_of}

-- what is kept of one publisher
abbrev pub held_view : Held → View
held_view h = record {
  know = h.know.runs;
  wants = runs_of h.wants;
  asks = h.asks.runs;
  horizon = h.horizon;
  joins = h.joins;
}

-- the net that this shows: a late subscriber wants what is past its join, as the held joins say
abbrev pub shown_net : TopologyView → Held → Net
shown_net t h = seen (net_of t) (held_view h)

-- a position over the edges that all publishers share
abbrev pub seen_branch : List (List Wanting) → Position → Branch
seen_branch edges place = record {
  host = place.host;
  up = place.up;
  keeps = place.keeps;
  children = map (λ c. c.number) place.children.items;
  edges = map (λ c. get_or edges c.edge []) place.children.items;
}

-- each child has its edge
abbrev pub HasEdges : List (List Wanting) → Position → Type 0
HasEdges edges place = AllByRecursion (λ c. c.edge < length edges) place.children.items

-- A seat is a broker of a topology, with where it stands in each publisher's tree
pub record IsSeat (s : Seat) : Type 0 where
  pub number : s.number < length s.topo.now.brokers
  pub here : s.here.now ≡ subscribers_of s.topo.now s.number
  pub branches : map (seen_branch s.edges.now) s.positions.now
      ≡ map (branch_of s.topo.now s.number) (numbers (length s.topo.now.publishers))
  pub edges : AllByRecursion (HasEdges s.edges.now) s.positions.now

-- A site is where a broker of a topology stands in a publisher's tree
pub record IsSite (s : Site) : Type 0 where
  pub broker : s.broker < length s.topo.now.brokers
  pub publisher : s.publisher < length s.topo.now.publishers
  pub here : s.here.now ≡ subscribers_of s.topo.now s.broker
  pub branch : seen_branch s.edges.now s.position.now ≡ branch_of s.topo.now s.broker s.publisher
  pub edges : HasEdges s.edges.now s.position.now
