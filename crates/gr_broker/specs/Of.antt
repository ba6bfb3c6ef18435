-- The broker of a topology
use Rattle.std.specs.Prelude.{◌≡◌, ℕ, ◌<◌, List, length, map, get_or, Option, Some, None, is_some}
use Rattle.gr_topo.specs.Topology.{TopologyView, subscribers_of}
use Rattle.gr_out.specs.Lane.{Lane}
use Rattle.gr_publog.specs.Views.{LogView, lanes_at, IsReady}
use Rattle.gr_model.specs.Net.{numbers, is_host}
use Rattle.gr_model.specs.NetOf.{net_of}
use Rattle.gr_model.specs.Broker.{View}
use Rattle.gr_model.specs.World.{blank_view}
use Rattle.gr_broker_relay.specs.Branch.{branch_of}
use Rattle.gr_broker_relay.specs.Kept.{IsKept}
use Rattle.gr_broker.specs.Lanes.{log_lane}
use Rattle.gr_broker.specs.Seen.{BrokerView, view_in, log_in, HasJoins}

-- where a log is here, its joins are held
abbrev pub HoldJoins : List View → List (Option LogView) → Type 0
HoldJoins views logs = (p : ℕ) (l : LogView) → get_or logs p None ≡ Some l → HasJoins (get_or views p blank_view) l

-- A broker of a topology
pub record IsBrokerOf (t : TopologyView) (b : BrokerView) : Type 0 where
  pub number : b.number < length t.brokers
  pub here : b.here ≡ subscribers_of t b.number
  pub branches : b.branches ≡ map (branch_of t b.number) (numbers (length t.publishers))
  pub views : length b.views ≡ length t.publishers
  pub logs : length b.logs ≡ length t.publishers
  pub kept : (p : ℕ) → p < length t.publishers → IsKept (net_of t) p b.number (view_in b p)
  pub hosted : (p : ℕ) → p < length t.publishers → is_some (log_in b p) ≡ is_host (net_of t) p b.number
  pub lanes : (p : ℕ) (l : LogView) → log_in b p ≡ Some l → l.lane ≡ log_lane p
  pub late : (p : ℕ) (l : LogView) → log_in b p ≡ Some l → l.state.late ≡ t.late
  pub joined : HoldJoins b.views b.logs

-- each log that is not broken stands as the last call left it
abbrev pub LogsStand : (ℕ → Lane) → BrokerView → Type 0
LogsStand lanes b = (p : ℕ) (l : LogView) → log_in b p ≡ Some l → IsReady l (lanes_at lanes (log_lane p))
