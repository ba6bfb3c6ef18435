-- What holds of a node between its calls, and of what a run is asked
use Rattle.std.specs.Prelude.{◌≡◌, ℕ, ◌<◌, ◌≤◌, true, false, List, length, Some, is_some, IsSome}
use Rattle.std.specs.List.{AllByRecursion}
use Rattle.gr_out.specs.Journal.{is_among}
use Rattle.gr_out.specs.Lane.{Lane}
use Rattle.gr_tick.specs.declared.TheConstants.{MAX_TICK}
use Rattle.gr_publog.specs.Views.{LogView, AwayFrom}
use Rattle.gr_topo.specs.Topology.{TopologyView, address_of, host_of}
use Rattle.gr_model.specs.NetOf.{IsRising}
use Rattle.gr_model.specs.Orders.{AreOrdersOf}
use Rattle.gr_broker.specs.Lanes.{log_lane}
use Rattle.gr_broker.specs.Seen.{BrokerView, log_in}
use Rattle.gr_broker.specs.Of.{IsBrokerOf, LogsStand}
use Rattle.gr_node.specs.Seen.{NodeView, broker_in}

-- the brokers that are to be hosted, in rising order
pub record AreHosted (t : TopologyView) (hosted : List ℕ) : Type 0 where
  pub rising : IsRising hosted
  pub brokers : AllByRecursion (λ b. b < length t.brokers) hosted

-- every broker has an address
abbrev pub AreAddressed : TopologyView → Type 0
AreAddressed t = (b : ℕ) → b < length t.brokers → IsSome (address_of t b)

-- The brokers of the topology that are hosted, each at its number, and no log of theirs is broken
pub record NodeFits (t : TopologyView) (n : NodeView) : Type 0 where
  pub count : length n.brokers ≡ length t.brokers
  pub now : n.now ≤ MAX_TICK
  pub fits : (b : ℕ) (x : BrokerView) → broker_in n b ≡ Some x → IsBrokerOf t x
  pub numbered : (b : ℕ) (x : BrokerView) → broker_in n b ≡ Some x → x.number ≡ b
  pub whole : (b p : ℕ) (x : BrokerView) (l : LogView) → broker_in n b ≡ Some x → log_in x p ≡ Some l → l.broken ≡ false

-- these brokers are hosted, and no others
abbrev pub Hosts : List ℕ → NodeView → Type 0
Hosts hosted n = (b : ℕ) → is_some (broker_in n b) ≡ is_among hosted b

-- the lanes stand as the hosted brokers left them
abbrev pub AllStand : (ℕ → Lane) → NodeView → Type 0
AllStand lanes n = (b : ℕ) (x : BrokerView) → broker_in n b ≡ Some x → LogsStand lanes x

-- no lane was touched but the two of each publisher at these brokers
abbrev pub OthersStay : TopologyView → List ℕ → (ℕ → Lane) → (ℕ → Lane) → Type 0
OthersStay t bs before after = (n : ℕ)
    → ((p : ℕ) → p < length t.publishers → is_among bs (host_of t p) ≡ true → AwayFrom (log_lane p) n)
    → after n ≡ before n

-- a node that hosts these brokers, between two calls
pub record IsSet (t : TopologyView) (hosted : List ℕ) (n : NodeView) : Type 0 where
  pub fits : NodeFits t n
  pub hosts : Hosts hosted n
  pub orders : AreOrdersOf t n.orders
