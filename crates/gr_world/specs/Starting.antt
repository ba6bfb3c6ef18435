-- Brokers that have started over their logs: what each keeps and tells, and what was done to the lanes
use Rattle.std.specs.Prelude.{◌≡◌, ℕ, ◌<◌, false, List, length, set, get_or, Some, Ok, Err, flat_map}
use Rattle.gr_out.specs.Lane.{Lane, crash_image}
use Rattle.gr_publog.specs.Lanes.{lanes_text}
use Rattle.gr_publog.specs.Views.{LogView, Lanes, lanes_at, AwayFrom}
use Rattle.gr_publog.specs.Opens.{Opens}
use Rattle.gr_topo.specs.Topology.{TopologyView, host_of}
use Rattle.gr_model.specs.declared.report.Report.{Report}
use Rattle.gr_model.specs.Net.{numbers}
use Rattle.gr_model.specs.NetOf.{net_of}
use Rattle.gr_broker.specs.Lanes.{log_lane}
use Rattle.gr_broker.specs.Seen.{BrokerView, view_in, log_in, machine_log}
use Rattle.gr_broker.specs.Of.{IsBrokerOf}
use Rattle.gr_broker.specs.Opened.{LosesNothing, opened_at}
use Rattle.gr_world.specs.Seen.{no_broker}
use Rattle.gr_world.specs.Lanes.{crashed_lanes}

-- what a broker's start tells, over the logs that it has
abbrev pub start_lines : TopologyView → ℕ → BrokerView → List Report
start_lines t b v = flat_map (λ p. (opened_at (net_of t) p b (machine_log v p)).lines) (numbers (length t.publishers))

-- a broker that has started
pub record HasStarted (t : TopologyView) (b : ℕ) (v : BrokerView) : Type 0 where
  pub number : v.number ≡ b
  pub fits : IsBrokerOf t v
  pub views : (p : ℕ) → p < length t.publishers → view_in v p ≡ (opened_at (net_of t) p b (machine_log v p)).view
  pub whole : (p : ℕ) (l : LogView) → log_in v p ≡ Some l → l.broken ≡ false

-- so many brokers have started, and told these lines
pub record HaveStarted (t : TopologyView) (upto : ℕ) (brokers : List BrokerView) (told : List Report) : Type 0 where
  pub count : length brokers ≡ upto
  pub each : (b : ℕ) → b < upto → HasStarted t b (get_or brokers b no_broker)
  pub lines : told ≡ flat_map (λ b. start_lines t b (get_or brokers b no_broker)) (numbers upto)

-- the lanes of the publishers at these brokers were opened as their logs, and no other lane was touched
pub record HaveOpened (t : TopologyView) (upto : ℕ) (brokers : List BrokerView) (before after : ℕ → Lane) : Type 0 where
  pub opened : (b p : ℕ) (l : LogView) → b < upto → log_in (get_or brokers b no_broker) p ≡ Some l
      → Opens t.late (log_lane p) (lanes_at before (log_lane p)) (lanes_at after (log_lane p)) (Ok l)
  pub others : (n : ℕ) → ((p : ℕ) → p < length t.publishers → host_of t p < upto → AwayFrom (log_lane p) n)
      → after n ≡ before n

-- the lanes of so many publishers were crashed, of those that are at a broker
pub record CrashesLanes (t : TopologyView) (b upto : ℕ) (before after : ℕ → Lane) : Type 0 where
  pub here : (p : ℕ) → p < upto → host_of t p ≡ b
      → lanes_at after (log_lane p) ≡ crashed_lanes (lanes_at before (log_lane p))
  pub others : (n : ℕ) → ((p : ℕ) → p < upto → host_of t p ≡ b → AwayFrom (log_lane p) n) → after n ≡ before n

-- one broker was exchanged for one that has started, and told these lines
pub record IsExchanged (t : TopologyView) (b : ℕ) (old new : List BrokerView) (told : List Report) : Type 0 where
  pub broker : BrokerView
  pub place : new ≡ set old b broker
  pub started : HasStarted t b broker
  pub lines : told ≡ start_lines t b broker

-- the lanes of a broker's publishers were crashed, and opened as its logs
abbrev pub OpensAgain : TopologyView → ℕ → List BrokerView → (ℕ → Lane) → (ℕ → Lane) → Type 0
OpensAgain t b brokers before after = (p : ℕ) (l : LogView) → log_in (get_or brokers b no_broker) p ≡ Some l
    → Opens t.late (log_lane p) (crashed_lanes (lanes_at before (log_lane p))) (lanes_at after (log_lane p)) (Ok l)

-- no other lane was touched, and those have lost nothing since the crash, whether the broker has started or not
pub record TouchesLanes (t : TopologyView) (b : ℕ) (before after : ℕ → Lane) : Type 0 where
  pub others : (n : ℕ) → ((p : ℕ) → p < length t.publishers → host_of t p ≡ b → AwayFrom (log_lane p) n)
      → after n ≡ before n
  pub any_moment : (p : ℕ) → p < length t.publishers → host_of t p ≡ b
      → LosesNothing t.late (crashed_lanes (lanes_at before (log_lane p))) (lanes_at after (log_lane p))

-- what a crash leaves of the lanes of a publisher at a broker holds no log
pub record LeavesNoLog (t : TopologyView) (b p at : ℕ) (ls : Lanes) : Type 0 where
  pub publisher : p < length t.publishers
  pub hosted : host_of t p ≡ b
  pub fault : lanes_text t.late (crash_image ls.first) (crash_image ls.second) ≡ Err at
