-- What a process of some brokers does at an arrival, by the machine
use Rattle.std.specs.Prelude.{ℕ, List, [], ◌∷◌, ◌++◌, map}
use Rattle.gr_frame.specs.declared.Frame.{Frame}
use Rattle.gr_frame.specs.Bytes.{frame_bytes}
use Rattle.gr_sched.specs.declared.step.Line.{Line}
use Rattle.gr_topo.specs.Topology.{TopologyView}
use Rattle.gr_model.specs.declared.report.Report.{Report}
use Rattle.gr_model.specs.NetOf.{net_of}
use Rattle.gr_model.specs.World.{World, Transition, start, sent_since}
use Rattle.gr_model.specs.Arrivals.{Arrival, datagram, quiet, Request, requests_of, left_after, comes}
use Rattle.gr_model.specs.Orders.{Order, fed, ordered, without_ordered, orders_of}
use Rattle.gr_model.specs.Text.{labels_of, whole_line}
use Rattle.gr_journal.specs.declared.arrival.Arrival.{Arrival as Noted}
use Rattle.gr_journal.specs.declared.arrival.Arrival.TheVariants as noted
use Rattle.gr_journal.specs.Groups.{Offer, Group, Behavior}

-- an arrival of a journal, as the machine has it
abbrev pub arrival_of : Noted → Arrival
arrival_of (noted.Quiet moment) = quiet moment
arrival_of (noted.Datagram b moment bytes) = datagram b bytes moment

-- a frame that is sent, as journals have it
abbrev pub noted_offer : Frame → Offer
noted_offer f = record { from = f.head.from; to = f.head.to; bytes = frame_bytes f }

-- a process: the world of its brokers, the requests that are left to it, and its lists over all publishers
pub record Standing : Type 0 where
  pub world : World
  pub left : List Request
  pub orders : List Order

-- before anything came
abbrev pub begun : TopologyView → List Line → List ℕ → Standing
begun t steps hosted = record {
  world = start (net_of t);
  left = requests_of (net_of t) hosted steps;
  orders = orders_of t;
}

-- what an arrival leads to in the world of a process
abbrev pub comes_to : TopologyView → List ℕ → Standing → Arrival → Transition
comes_to t hosted s a = comes (net_of t) hosted s.world s.left a

-- the process behind an arrival
unfoldable pub standing_next : TopologyView → List ℕ → Standing → Arrival → Standing
standing_next t hosted s a = let u : Transition = comes_to t hosted s a in record {
  world = u.world;
  left = left_after s.left a;
  orders = without_ordered (fed s.orders u.lines);
}

-- behind all of these
abbrev pub standing_after : TopologyView → List ℕ → Standing → List Noted → Standing
standing_after t hosted s [] = s
standing_after t hosted s (a ∷ came) = standing_after t hosted (standing_next t hosted s (arrival_of a)) came

-- these lines and frames as a group
abbrev pub group_of : TopologyView → List Report → List Frame → Group
group_of t lines sent = record { says = map (whole_line (labels_of t)) lines; offers = map noted_offer sent }

-- what a process tells and offers at an arrival: its lines, and then those of each list over all publishers
unfoldable pub group_at : TopologyView → List ℕ → Standing → Arrival → Group
group_at t hosted s a = let u : Transition = comes_to t hosted s a in
    group_of t (u.lines ++ ordered (fed s.orders u.lines)) (sent_since s.world u.world)

-- what a process of these brokers does, of which this came before, at an arrival
abbrev pub behaves : TopologyView → List Line → Behavior
behaves t steps hosted before a =
    group_at t hosted (standing_after t hosted (begun t steps hosted) before) (arrival_of a)
