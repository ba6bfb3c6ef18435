-- What is shown, line by line: the log of a publisher that is here, by the numbers of its records, and the horizons of each broker. All
-- these lines name what the topology has
use Rattle.std.proofs.Common.{◌≡◌, ℕ, ◌<◌, Bool, true, false, List, [], ◌∷◌, ◌++◌, length, flat_map, get_or, Option, Some, None, sym, ap, ◌∙◌, arith}
use Rattle.std.specs.Prelude.{if◌then◌else◌}
use Rattle.std.proofs.lemmas.List.{get_or_read}
use Rattle.gr_topo.specs.Topology.{TopologyView}
use Rattle.gr_model.specs.declared.report.Report.{Report}
use Rattle.gr_model.specs.declared.report.Report.TheVariants as line
use Rattle.gr_model.specs.Net.{keeps_horizon, numbers}
use Rattle.gr_model.specs.NetOf.{net_of}
use Rattle.gr_model.specs.Text.{IsNamed}
use Rattle.gr_model.specs.Arrivals.{is_hosted}
use Rattle.gr_model_calls.proofs.asks.AskMoments.{Each-on}
use Rattle.gr_model_calls.proofs.runs.Worlds.{Each, numbers_below}
use Rattle.gr_broker.specs.Seen.{BrokerView, view_in}
use Rattle.gr_report.specs.Named.{AllNamed}
use Rattle.gr_report.proofs.Named.{each_of, all_of}
use Rattle.gr_report.proofs.OpenedNamed.{each_flat}
use Rattle.gr_node.specs.Seen.{NodeView, broker_in, log_here}
use Rattle.gr_node.specs.Of.{AreHosted, NodeFits}
use Rattle.gr_node.specs.Done.{log_shown, log_shown_in, logs_shown, doubt_shown, doubts_by, doubts_shown, shown}

-- A broker that was read

-- it is the one at its place
pub broker_found : (t : TopologyView) (n : NodeView) (b : ℕ) (o : Option BrokerView) (x : BrokerView) → NodeFits t n → b < length t.brokers → o ≡ get_or n.brokers b o → o ≡ Some x → broker_in n b ≡ Some x
broker_found t n b o x f h read is = sym (get_or_read n.brokers b o (omega (arith, h, f.count)) read None) ∙ is

-- All lines are named

-- those of a log
log_named : (t : TopologyView) (hosted : List ℕ) (n : NodeView) (p : ℕ) → p < length t.publishers → Each (IsNamed t) (log_shown_in t hosted n p)
log_named t hosted n p h = go (is_hosted (net_of t) hosted p)
  where
    go : (b : Bool) → Each (IsNamed t) (if b then log_shown p (log_here t n p) ∷ [] else [])
    go true = (h, tt)
    go false = tt

-- those of a horizon
doubt_named : (t : TopologyView) (b : ℕ) (x : BrokerView) (p : ℕ) → b < length t.brokers → p < length t.publishers → Each (IsNamed t) (doubt_shown t b x p)
doubt_named t b x p i h = go (keeps_horizon (net_of t) p b)
  where
    go : (c : Bool) → Each (IsNamed t) (if c then line.Doubt b p (view_in x p).horizon ∷ [] else [])
    go true = ((i, h), tt)
    go false = tt

-- those of all horizons of a broker
doubts_named : (t : TopologyView) (b : ℕ) (o : Option BrokerView) → b < length t.brokers → Each (IsNamed t) (doubts_by t b o)
doubts_named t b None i = tt
doubts_named t b (Some x) i =
    let n = length t.publishers in
    each_flat (IsNamed t) (λ p. p < n) (doubt_shown t b x) (λ p h. doubt_named t b x p i h) (numbers n) (numbers_below 0 n n (omega arith))

-- all that is shown
pub shown_named : (t : TopologyView) (hosted : List ℕ) (n : NodeView) → AreHosted t hosted → AllNamed t (shown t hosted n)
unfolding shown
shown_named t hosted n a =
    let many = length t.publishers in
    let logs = each_flat (IsNamed t) (λ p. p < many) (log_shown_in t hosted n) (log_named t hosted n) (numbers many) (numbers_below 0 many many (omega arith)) in
    let doubts = each_flat (IsNamed t) (λ b. b < length t.brokers) (doubts_shown t n) (λ b i. doubts_named t b (broker_in n b) i) hosted (each_of (λ b. b < length t.brokers) hosted a.brokers) in
    (tt, all_of (IsNamed t) (logs_shown t hosted n ++ flat_map (doubts_shown t n) hosted) (Each-on (IsNamed t) (logs_shown t hosted n) (flat_map (doubts_shown t n) hosted) logs doubts))

-- the count of frames, then the logs, and then the horizons
pub all_shown : (t : TopologyView) (hosted : List ℕ) (n : NodeView) (none first logs all : List Report) → none ≡ [] → first ≡ none ++ line.Frames n.offers ∷ []
    → logs ≡ first ++ logs_shown t hosted n → all ≡ logs ++ flat_map (doubts_shown t n) hosted → all ≡ shown t hosted n
unfolding shown
all_shown t hosted n none first logs all e0 e1 e2 e3 =
    let doubts = flat_map (doubts_shown t n) hosted in
    let begun : first ≡ line.Frames n.offers ∷ [] = rw e0 at e1 in
    e3 ∙ ap (λ xs. xs ++ doubts) (e2 ∙ ap (λ xs. xs ++ logs_shown t hosted n) begun)
