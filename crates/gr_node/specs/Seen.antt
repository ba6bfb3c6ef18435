-- What a contract sees of a node
use Rattle.std.specs.Prelude.{ℕ, List, length, get_or, replicate, Option, Some, None}
use Rattle.gr_topo.specs.Topology.{TopologyView, host_of}
use Rattle.gr_model.specs.declared.report.Report.{Report}
use Rattle.gr_model.specs.Text.{labels_of, report_text}
use Rattle.gr_model.specs.Broker.{Log, empty_log}
use Rattle.gr_model.specs.Orders.{Order, orders_of}
use Rattle.gr_broker.specs.Seen.{BrokerView, machine_log}
use Rattle.gr_node.specs.declared.node.Node.{Node}

-- The hosted brokers, how many frames they have offered, the moment of the last arrival, and what the subscribers that
-- get one list over all publishers have heard
pub record NodeView : Type 0 where
  pub brokers : List (Option BrokerView)  -- by number; None where a broker is elsewhere
  pub offers : ℕ
  pub now : ℕ
  pub orders : List Order

abbrev pub seen : Node → NodeView
seen n = record { brokers = n.brokers.items; offers = n.offers; now = n.now; orders = n.orders }

-- the same node, with so many frames offered and with what these lists have heard
abbrev pub told_to : NodeView → ℕ → List Order → NodeView
told_to n offers orders = record { brokers = n.brokers; offers = offers; now = n.now; orders = orders }

-- the broker of a number, where it is hosted
abbrev pub broker_in : NodeView → ℕ → Option BrokerView
broker_in n b = get_or n.brokers b None

-- before any broker has started
abbrev pub none_started : TopologyView → NodeView
none_started t = record {
  brokers = replicate (length t.brokers) None;
  offers = 0;
  now = 0;
  orders = orders_of t;
}

-- the machine's log of a publisher at its host; where that is not hosted, one in which nothing was logged
abbrev pub log_at : Option BrokerView → ℕ → Log
log_at None p = empty_log
log_at (Some x) p = machine_log x p

abbrev pub log_here : TopologyView → NodeView → ℕ → Log
log_here t n p = log_at (broker_in n (host_of t p)) p

-- the text of lines
abbrev pub text_of : TopologyView → List Report → List ℕ
text_of t lines = report_text (labels_of t) lines
