-- A broker's start, publisher by publisher: what is kept of those so far, and what was done to their lanes
use Rattle.std.specs.Prelude.{◌≡◌, ℕ, ◌<◌, Bool, true, false, List, [], length, map, get_or, Option, Some}
use Rattle.std.specs.Prelude.{None, Ok, is_some, flat_map}
use Rattle.gr_event.specs.Joins.{Joins}
use Rattle.gr_topo.specs.Topology.{TopologyView, children_of}
use Rattle.gr_out.specs.Lane.{Lane}
use Rattle.gr_publog.specs.declared.record.LogFault.{LogFault}
use Rattle.gr_publog.specs.declared.record.LogFault.TheVariants as fault
use Rattle.gr_publog.specs.Views.{LogView, lanes_at, AwayFrom}
use Rattle.gr_publog.specs.Opens.{Opens}
use Rattle.gr_know.specs.Values.{Known}
use Rattle.gr_model.specs.declared.report.Report.{Report}
use Rattle.gr_model.specs.Net.{numbers, is_host}
use Rattle.gr_model.specs.NetOf.{net_of}
use Rattle.gr_model.specs.Broker.{View}
use Rattle.gr_model.specs.World.{blank_view}
use Rattle.gr_broker_relay.specs.declared.held.Held.{Held}
use Rattle.gr_broker_relay.specs.declared.site.Site.{Site}
use Rattle.gr_broker_relay.specs.Held.{held_view}
use Rattle.gr_broker_relay.specs.Kept.{IsKept}
use Rattle.gr_broker.specs.Lanes.{log_lane}
use Rattle.gr_broker.specs.declared.outcome.BrokerFault.{BrokerFault}
use Rattle.gr_broker.specs.declared.outcome.BrokerFault.TheVariants as refused
use Rattle.gr_broker.specs.Seen.{log_said, HasJoins}
use Rattle.gr_broker.specs.Opened.{opened_at, LosesNothing}

-- a fault of the log of a publisher
abbrev pub fault_of : ℕ → LogFault → BrokerFault
fault_of p fault.Memory = refused.Memory
fault_of p fault.Disk = refused.Disk
fault_of p fault.Reopen = refused.Reopen
fault_of p (fault.Damaged at) = refused.Damaged p at

-- what is kept of a publisher before anything was asked or handed over
abbrev pub fresh_view : TopologyView → ℕ → ℕ → Known → Joins → View
fresh_view t p b know js = record {
  know = know;
  wants = map (λ _. []) (children_of t p b);
  asks = [];
  horizon = 0;
  joins = js;
}

-- what the start of a publisher tells, over its log
abbrev pub start_lines : TopologyView → ℕ → Option LogView → ℕ → List Report
start_lines t b l p = (opened_at (net_of t) p b (log_said l)).lines

-- what is kept of a publisher that was started: its view, and its log where it is here
pub record IsStarted (t : TopologyView) (p b : ℕ) (v : View) (l : Option LogView) : Type 0 where
  pub view : v ≡ (opened_at (net_of t) p b (log_said l)).view
  pub kept : IsKept (net_of t) p b v
  pub hosted : is_some l ≡ is_host (net_of t) p b
  pub lane : (m : LogView) → l ≡ Some m → m.lane ≡ log_lane p
  pub whole : (m : LogView) → l ≡ Some m → m.broken ≡ false
  pub late : (m : LogView) → l ≡ Some m → m.state.late ≡ t.late
  pub joined : (m : LogView) → l ≡ Some m → HasJoins v m

-- the same of a site: whether its publisher is here, what is kept of it, and what its start tells
abbrev pub is_here : Site → Bool
is_here s = is_host (net_of s.topo.now) s.publisher s.broker

abbrev pub IsStartedAt : Site → Held → Type 0
IsStartedAt s h = IsStarted s.topo.now s.publisher s.broker (held_view h) h.log

abbrev pub lines_at : Site → Held → List Report
lines_at s h = start_lines s.topo.now s.broker h.log s.publisher

-- so many publishers were started, and these lines told
pub record AreStarted (t : TopologyView) (b upto : ℕ) (views : List View) (logs : List (Option LogView))
    (lines : List Report) : Type 0 where
  pub count : length views ≡ upto
  pub as_many : length logs ≡ upto
  pub each : (p : ℕ) → p < upto → IsStarted t p b (get_or views p blank_view) (get_or logs p None)
  pub told : lines ≡ flat_map (λ p. start_lines t b (get_or logs p None) p) (numbers upto)

-- the lanes of each of these publishers that is here were opened as its log
abbrev pub AreOpened : TopologyView → List (Option LogView) → (ℕ → Lane) → (ℕ → Lane) → Type 0
AreOpened t logs before after =
    (p : ℕ) (l : LogView) → get_or logs p None ≡ Some l
    → Opens t.late (log_lane p) (lanes_at before (log_lane p)) (lanes_at after (log_lane p)) (Ok l)

-- no other lane was touched than those of so many publishers that are here, and those have lost nothing
pub record TouchesLanes (t : TopologyView) (b upto : ℕ) (before after : ℕ → Lane) : Type 0 where
  pub others : (n : ℕ) → ((p : ℕ) → p < upto → is_host (net_of t) p b ≡ true → AwayFrom (log_lane p) n)
      → after n ≡ before n
  pub any_moment : (p : ℕ) → p < upto → is_host (net_of t) p b ≡ true
      → LosesNothing t.late (lanes_at before (log_lane p)) (lanes_at after (log_lane p))
