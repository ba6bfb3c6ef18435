-- The hosted brokers start: what each keeps and tells, and what was found on the lanes
use Rattle.std.specs.Prelude.{◌≡◌, ◌⊎◌, ℕ, ◌<◌, ◌≤◌, true, false, List, [], ◌++◌, length, take, get_or, Option}
use Rattle.std.specs.Prelude.{Some, None, Result, Ok, Err, IsOk, OnOk, OnErr, flat_map}
use Rattle.std.specs.List.{AllByRecursion}
use Rattle.gr_out.specs.declared.fault.RunFault.{RunFault}
use Rattle.gr_out.specs.declared.fault.RunFault.TheVariants as run
use Rattle.gr_out.specs.Journal.{is_among}
use Rattle.gr_out.specs.Lane.{Lane, content}
use Rattle.gr_out.specs.Page.{TakesBut, TakesFront}
use Rattle.gr_publog.specs.State.{IsState}
use Rattle.gr_publog.specs.Views.{LogView, Lanes, lanes_at}
use Rattle.gr_publog.specs.Opens.{OpensAs}
use Rattle.gr_pubend.specs.Log.{said}
use Rattle.gr_topo.specs.Topology.{TopologyView, host_of}
use Rattle.gr_model.specs.declared.report.Report.{Report}
use Rattle.gr_model.specs.Net.{numbers}
use Rattle.gr_model.specs.NetOf.{net_of}
use Rattle.gr_model.specs.Broker.{Log}
use Rattle.gr_model.specs.Arrivals.{is_hosted}
use Rattle.gr_model.specs.Orders.{fed, orders_of}
use Rattle.gr_broker.specs.Lanes.{log_lane}
use Rattle.gr_broker.specs.Seen.{BrokerView, view_in, log_in, machine_log}
use Rattle.gr_broker.specs.Of.{IsBrokerOf}
use Rattle.gr_broker.specs.Opened.{opened_at, found_at}
use Rattle.gr_node.specs.Seen.{NodeView, broker_in, log_here, text_of}
use Rattle.gr_node.specs.Of.{Hosts}
use Rattle.gr_node.specs.Went.{Outside, IsExact}

-- what a broker's start tells, over the logs that it has
abbrev pub lines_of_start : TopologyView → ℕ → Option BrokerView → List Report
lines_of_start t b None = []
lines_of_start t b (Some x) =
    flat_map (λ p. (opened_at (net_of t) p b (machine_log x p)).lines) (numbers (length t.publishers))

abbrev pub start_lines : TopologyView → NodeView → ℕ → List Report
start_lines t n b = lines_of_start t b (broker_in n b)

-- a hosted broker that has started
pub record HasStarted (t : TopologyView) (n : NodeView) (b : ℕ) : Type 0 where
  pub broker : BrokerView
  pub here : broker_in n b ≡ Some broker
  pub number : broker.number ≡ b
  pub fits : IsBrokerOf t broker
  pub views : (p : ℕ) → p < length t.publishers
      → view_in broker p ≡ (opened_at (net_of t) p b (machine_log broker p)).view
  pub whole : (p : ℕ) (l : LogView) → log_in broker p ≡ Some l → l.broken ≡ false
  pub states : (p : ℕ) (l : LogView) → log_in broker p ≡ Some l → IsState l.state

-- The first so many of the hosted brokers have started, and no others, and what they tell was heard and put; after a
-- fault a front of it
pub record Started {T : Type 0} (t : TopologyView) (hosted : List ℕ) (n' : NodeView) (before after : Outside)
    (result : Result T RunFault) : Type 0 where
  pub made : ℕ
  pub within : made ≤ length hosted
  pub whole : OnOk result (made ≡ length hosted)
  pub short : OnErr result (IsExact result → made < length hosted)
  pub hosts : Hosts (take made hosted) n'
  pub each : AllByRecursion (HasStarted t n') (take made hosted)
  pub heard : OnOk result (n'.orders ≡ fed (orders_of t) (flat_map (start_lines t n') (take made hosted)))
  pub damaged_next : (p at : ℕ) → result ≡ Err (run.Damaged p at) → get_or hosted made 0 ≡ host_of t p
  pub told : IsExact result → TakesBut before.taken after.taken
      (before.held ++ text_of t (flat_map (start_lines t n') (take made hosted))) after.held
  pub front : OnErr result
      (TakesFront before.taken after.taken (before.held ++ text_of t (flat_map (start_lines t n') (take made hosted))))

-- the two lanes from one on hold a log that is opened as this one, where these subscribers may join
abbrev pub OpensAsLog : List ℕ → ℕ → Lanes → Log → Type 0
OpensAsLog late lane ls log = (l : LogView) × OpensAs late lane (content ls.first) (content ls.second) (Ok l)
    × (said l ≡ log)

-- so do those of each publisher at these brokers, as its log
abbrev pub Found : TopologyView → NodeView → List ℕ → (ℕ → Lane) → Type 0
Found t n' bs lanes = (p : ℕ) → p < length t.publishers → is_among bs (host_of t p) ≡ true
    → OpensAsLog t.late (log_lane p) (lanes_at lanes (log_lane p)) (log_here t n' p)

-- The lanes of a publisher hold no log, with the place of the first fault; those that are opened before it hold one:
-- broker by broker, and at each its publishers in order
pub record IsFirstDamaged (t : TopologyView) (hosted : List ℕ) (p at : ℕ) (lanes : ℕ → Lane) : Type 0 where
  pub publisher : p < length t.publishers
  pub here : is_hosted (net_of t) hosted p ≡ true
  pub fault : found_at t lanes p ≡ Err at
  pub before : (q : ℕ) → q < length t.publishers → is_hosted (net_of t) hosted q ≡ true
      → (host_of t q < host_of t p) ⊎ ((host_of t q ≡ host_of t p) × (q < p))
      → IsOk (found_at t lanes q)
