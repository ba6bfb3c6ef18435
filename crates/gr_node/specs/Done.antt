-- The acts of a run at a node: what each leaves, tells and puts into the journal
use Rattle.std.specs.Prelude.{ℕ, suc, ◌+◌, min, if◌then◌else◌, List, [], ◌∷◌, ◌++◌, length, set, Option, Some, None}
use Rattle.std.specs.Prelude.{flat_map}
use Rattle.gr_frame.specs.declared.Frame.{Frame}
use Rattle.gr_out.specs.Entry.{Entry}
use Rattle.gr_out.specs.Entry as entry
use Rattle.gr_topo.specs.Topology.{TopologyView, host_of}
use Rattle.gr_model.specs.declared.report.Report.{Report}
use Rattle.gr_model.specs.declared.report.Report.TheVariants as line
use Rattle.gr_model.specs.Net.{keeps_horizon, numbers}
use Rattle.gr_model.specs.NetOf.{net_of}
use Rattle.gr_model.specs.Broker.{Outcome as MachineOutcome, Log, max_tick}
use Rattle.gr_model.specs.World.{sent_lines, kept_events}
use Rattle.gr_model.specs.Arrivals.{Arrival, fault_number, is_hosted, split_line}
use Rattle.gr_model.specs.Orders.{fed, ordered, without_ordered}
use Rattle.gr_broker.specs.Seen.{BrokerView, view_in}
use Rattle.gr_broker.specs.Hosted.{publish_at, after_publish, join_at, after_join, wake_at, after_wake}
use Rattle.gr_broker.specs.Receipt.{Receipt, no_frame, stray, split, clash, taken, receipt, after_receipt}
use Rattle.gr_node.specs.Seen.{NodeView, broker_in, log_here}
use Rattle.gr_node.specs.Plan.{Call, gets, publishes, joins, wakes, Act, binds, starts, arrives, calls, answers, drops}
use Rattle.gr_node.specs.Plan.{settles, closes, shows, is_ours, moment_of, entry_of, offers_of, reply_entry}

pub record Done : Type 0 where
  pub node : NodeView
  pub lines : List Report
  pub entries : List Entry

-- nothing was done
abbrev pub still : NodeView → Done
still n = record { node = n; lines = []; entries = [] }

-- A broker's call is taken up: what it keeps, its lines and those of its frames, which are numbered on from those
-- offered before, and the offers. The subscribers that get one list over all publishers hear the lines
abbrev pub taken_up : NodeView → ℕ → BrokerView → List Report → List Frame → Done
taken_up n b x lines frames = record {
  node = record {
    brokers = set n.brokers b (Some x);
    offers = n.offers + length frames;
    now = n.now;
    orders = fed n.orders lines;
  };
  lines = lines ++ sent_lines (suc n.offers) frames;
  entries = offers_of frames;
}

-- what a receipt tells, and what it sends
abbrev pub receipt_lines : ℕ → Receipt → List Report
receipt_lines b (no_frame fault) = line.DroppedNotFrame b (fault_number fault.kind) fault.at ∷ []
receipt_lines b (stray head) = line.DroppedStray b head.from head.to head.publisher ∷ []
receipt_lines b (split x) = split_line b x ∷ []
receipt_lines b (clash tick kept came) = line.DroppedClash b tick kept came ∷ []
receipt_lines b (taken o) = o.lines

abbrev pub receipt_frames : Receipt → List Frame
receipt_frames (taken o) = o.frames
receipt_frames _ = []

-- the broker that a call is made of
abbrev pub broker_of : TopologyView → Call → ℕ
broker_of t (gets b r) = b
broker_of t (publishes x) = host_of t x.0
broker_of t (joins s p) = host_of t p
broker_of t (wakes b p) = b

-- a call of a broker that is hosted: the broker's own
unfoldable pub done_at : TopologyView → NodeView → ℕ → BrokerView → Call → Done
done_at t n b x (gets c r) =
    let a = receipt (net_of t) n.now x r in
    taken_up n b (after_receipt r a x) (receipt_lines b a) (receipt_frames a)
done_at t n b x (publishes y) =
    let o : MachineOutcome = publish_at t x y.0 n.now y.1.0 y.1.1 in
    taken_up n b (after_publish t x y.0 n.now y.1.0 y.1.1) o.lines o.frames
done_at t n b x (joins s p) =
    let o : MachineOutcome = join_at t x p s n.now in taken_up n b (after_join t x p s n.now) o.lines o.frames
done_at t n b x (wakes c p) =
    let o : MachineOutcome = wake_at t x p n.now in taken_up n b (after_wake t x p n.now) o.lines o.frames

-- a call of any
abbrev pub done_by : TopologyView → NodeView → ℕ → Option BrokerView → Call → Done
done_by t n b None c = still n
done_by t n b (Some x) c = done_at t n b x c

unfoldable pub call_done : TopologyView → NodeView → Call → Done
call_done t n c = done_by t n (broker_of t c) (broker_in n (broker_of t c)) c

-- What is shown: how many frames were offered, the logs that are here, and the horizons of the hosted brokers

abbrev pub log_shown : ℕ → Log → Report
log_shown p l = line.LogOf p l.last l.settled l.cut (kept_events l)

abbrev pub log_shown_in : TopologyView → List ℕ → NodeView → ℕ → List Report
log_shown_in t hosted n p =
    if is_hosted (net_of t) hosted p then log_shown p (log_here t n p) ∷ [] else []

abbrev pub logs_shown : TopologyView → List ℕ → NodeView → List Report
logs_shown t hosted n = flat_map (log_shown_in t hosted n) (numbers (length t.publishers))

abbrev pub doubt_shown : TopologyView → ℕ → BrokerView → ℕ → List Report
doubt_shown t b x p = if keeps_horizon (net_of t) p b then line.Doubt b p (view_in x p).horizon ∷ [] else []

abbrev pub doubts_by : TopologyView → ℕ → Option BrokerView → List Report
doubts_by t b None = []
doubts_by t b (Some x) = flat_map (doubt_shown t b x) (numbers (length t.publishers))

abbrev pub doubts_shown : TopologyView → NodeView → ℕ → List Report
doubts_shown t n b = doubts_by t b (broker_in n b)

unfoldable pub shown : TopologyView → List ℕ → NodeView → List Report
shown t hosted n = line.Frames n.offers ∷ (logs_shown t hosted n ++ flat_map (doubts_shown t n) hosted)

-- One act, and all

-- the clock moves to the moment of what came, at most to the last tick
abbrev pub at_arrival : List ℕ → NodeView → Arrival → NodeView
at_arrival hosted n a =
    if is_ours hosted a
    then record { brokers = n.brokers; offers = n.offers; now = min (moment_of a) max_tick; orders = n.orders } else n

-- what is ready in one order is taken out
abbrev pub settled : NodeView → NodeView
settled n = record { brokers = n.brokers; offers = n.offers; now = n.now; orders = without_ordered n.orders }

-- the acts of a run once the hosted brokers have started
unfoldable pub done : TopologyView → List ℕ → NodeView → Act → Done
done t hosted n (binds b) = still n
done t hosted n (starts b) = still n
done t hosted n (arrives a) = record { node = at_arrival hosted n a; lines = []; entries = entry_of a ∷ [] }
done t hosted n (calls c) = call_done t n c
done t hosted n (answers x) =
    let l : Log = log_here t n x.0 in
    record { node = n; lines = []; entries = reply_entry t l.last x ∷ [] }
done t hosted n (drops l) = record { node = n; lines = l ∷ []; entries = [] }
done t hosted n settles = record { node = settled n; lines = ordered n.orders; entries = [] }
done t hosted n closes = record { node = n; lines = []; entries = entry.closed ∷ [] }
done t hosted n shows = record { node = n; lines = shown t hosted n; entries = [] }

-- one done, and then another
abbrev pub and_then : Done → Done → Done
and_then d e = record { node = e.node; lines = d.lines ++ e.lines; entries = d.entries ++ e.entries }

unfoldable pub all_done : TopologyView → List ℕ → NodeView → List Act → Done
all_done t hosted n [] = still n
all_done t hosted n (a ∷ acts) =
    let d : Done = done t hosted n a in and_then d (all_done t hosted d.node acts)
