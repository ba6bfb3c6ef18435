-- The journal of a run: what its acts put there
use Rattle.std.specs.Prelude.{◌≡◌, ℕ, ◌<◌, true, min, if◌then◌else◌, List, [], ◌∷◌, ◌++◌, length, map, get_or, flat_map}
use Rattle.std.specs.Prelude.{Option, Result, OnOk}
use Rattle.std.specs.List.{list_any}
use Rattle.gr_out.specs.declared.fault.RunFault.{RunFault}
use Rattle.gr_out.specs.Bytes.{with_more}
use Rattle.gr_out.specs.Entry.{Entry, offered}
use Rattle.gr_out.specs.Page.{TakesFront}
use Rattle.gr_pubend.specs.Log.{fresh_log}
use Rattle.gr_sched.specs.declared.step.Line.{Line}
use Rattle.gr_topo.specs.Topology.{TopologyView}
use Rattle.gr_model.specs.declared.report.Report.{Report}
use Rattle.gr_model.specs.NetOf.{net_of}
use Rattle.gr_model.specs.Broker.{max_tick, empty_log}
use Rattle.gr_model.specs.World.{World, Transition}
use Rattle.gr_model.specs.Arrivals.{Arrival, datagram, quiet, is_hosted}
use Rattle.gr_model.specs.Orders.{Order, orders_of}
use Rattle.gr_model.specs.Text.{labels_of, whole_line}
use Rattle.gr_journal.specs.declared.arrival.Arrival.{Arrival as Noted}
use Rattle.gr_journal.specs.declared.arrival.Arrival.TheVariants.{Quiet, Datagram}
use Rattle.gr_journal.specs.Groups.{say_text, offer_text, journal_text}
use Rattle.gr_journal.specs.Lines.{process_text, arrival_text}
use Rattle.gr_audit_theorems.specs.Behaves.{behaves}
use Rattle.gr_node.specs.Plan.{Act, arrives, settles, shows, is_ours, ours, act, told_by, heard_by, entries, plan}
use Rattle.gr_node.specs.Served.{Course, world_before, is_bind}
use Rattle.gr_node.specs.Went.{IsExact}

-- an arrival as a journal has it: a moment past the last tick stands as that
abbrev pub noted : Arrival → Noted
noted (datagram b bytes moment) = Datagram b (min moment max_tick) bytes
noted (quiet moment) = Quiet (min moment max_tick)

-- lines of a report, each behind its word
abbrev pub said_lines : TopologyView → List Report → List ℕ
said_lines t lines = flat_map (λ l. say_text (whole_line (labels_of t) l)) lines

-- the lines of offers
abbrev pub out_of : TopologyView → Entry → List ℕ
out_of t (offered from to bytes) = offer_text t (record { from = from; to = to; bytes = bytes })
out_of t _ = []

abbrev pub outs_of : TopologyView → List Entry → List ℕ
outs_of t sent = flat_map (out_of t) sent

-- What an act puts into the journal, by what it tells and by the lines of offers that wait: these stand behind all
-- that is told of an arrival. What is shown at the end has no place in a journal
abbrev pub written : TopologyView → List ℕ → Act → List Report → List ℕ → List ℕ
written t hosted (arrives a) told waiting = if is_ours hosted a then arrival_text t (noted a) else []
written t hosted settles told waiting = said_lines t told ++ waiting
written t hosted shows told waiting = []
written t hosted _ told waiting = said_lines t told

-- and the lines that wait then
abbrev pub waits_after : TopologyView → Act → List Entry → List ℕ → List ℕ
waits_after t settles sent waiting = []
waits_after t _ sent waiting = waiting ++ outs_of t sent

-- what acts put there, one after another
unfoldable pub written_by_acts : TopologyView → List ℕ → World → List Order → List ℕ → List Act → List ℕ
written_by_acts t hosted w os waiting [] = []
written_by_acts t hosted w os waiting (a ∷ acts) =
    let u : Transition = act (net_of t) hosted w a in
    written t hosted a (told_by (net_of t) hosted w os a) waiting
    ++ written_by_acts t hosted u.world (heard_by (net_of t) hosted w os a)
    (waits_after t a (entries t hosted w a) waiting) acts

-- The journal of a run in which these acts were made, and those are left: the line of the process comes once all nodes
-- are bound
abbrev pub journal_of : TopologyView → List ℕ → Course → List Act → List Act → List ℕ
journal_of t hosted c made left =
    if list_any is_bind left then []
    else process_text t hosted ++ written_by_acts t hosted (world_before t c) (orders_of t) [] made

-- the logs that were opened at the hosted brokers are new
abbrev pub AreNew : TopologyView → List ℕ → Course → Type 0
AreNew t hosted c = (p : ℕ) → p < length t.publishers → is_hosted (net_of t) hosted p ≡ true
    → get_or c.logs p empty_log ≡ fresh_log true

-- The sink took the journal of what was done; where that is not known, a front of the journal of the whole plan. Over new
-- logs the journal of a whole run is the one that an audit expects of a process to which this came
pub record Traces {T : Type 0} (t : TopologyView) (hosted : List ℕ) (steps : List Line) (c : Course)
    (before after : Option (List ℕ)) (result : Result T RunFault) : Type 0 where
  pub exact : IsExact result → after ≡ with_more before (journal_of t hosted c c.made c.left)
  pub front : (IsExact result → ⊥)
      → TakesFront before after (journal_of t hosted c (plan t hosted steps c.came c.closed) [])
  pub expected : OnOk result (AreNew t hosted c
      → after ≡ with_more before (journal_text (behaves t steps) t hosted (map noted (ours hosted c.came))))
