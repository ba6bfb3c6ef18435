-- What a run is to do, act by act, and what the machine does and the journal notes at each
use Rattle.std.specs.Prelude.{ℕ, suc, ◌-◌, ◌&&◌, Bool, true, false, nat_eq, nat_lt, if◌then◌else◌, List, [], ◌∷◌, ◌++◌}
use Rattle.std.specs.Prelude.{length, map, filter, flat_map, Option, Some, None, is_some, unwrap_or, Result, Ok, Err}
use Rattle.gr_frame.specs.declared.Frame.{Frame}
use Rattle.gr_frame.specs.declared.fault.FrameFault.{FrameFault}
use Rattle.gr_frame.specs.Bytes.{frame_bytes}
use Rattle.gr_frame.specs.Decode.{frame_decoded}
use Rattle.gr_note.specs.declared.note.Note.{Note}
use Rattle.gr_note.specs.declared.note.Note.TheVariants.{Next, Spent}
use Rattle.gr_note.specs.declared.fault.NoteFault.{NoteFault}
use Rattle.gr_note.specs.declared.node.TheConstants.{FIRST_CLIENT}
use Rattle.gr_note.specs.Fault as note
use Rattle.gr_note.specs.Bytes.{begins_note, note_bytes}
use Rattle.gr_note.specs.Decode.{note_decoded}
use Rattle.gr_note.specs.Nodes.{client_node}
use Rattle.gr_out.specs.Entry.{Entry}
use Rattle.gr_out.specs.Entry as entry
use Rattle.gr_out.specs.Journal.{is_among}
use Rattle.gr_sched.specs.declared.step.Line.{Line}
use Rattle.gr_topo.specs.Topology.{TopologyView, address_of, client_of, host_of}
use Rattle.gr_model.specs.declared.report.Report.{Report}
use Rattle.gr_model.specs.declared.report.Report.TheVariants as line
use Rattle.gr_model.specs.Net.{Net, numbers}
use Rattle.gr_model.specs.NetOf.{net_of}
use Rattle.gr_model.specs.Broker.{Log}
use Rattle.gr_model.specs.World.{World, Transition, unchanged, in_turn, publish_now, join_now, wake_for, sent_since}
use Rattle.gr_model.specs.World.{log_of}
use Rattle.gr_model.specs.Opening.{opened_for, publishers_at}
use Rattle.gr_model.specs.Arrivals.{Arrival, datagram, quiet, Publish, Request, asks_publish, asks_join, requests_of}
use Rattle.gr_model.specs.Arrivals.{left_after, at_moment, receives, publisher_of, submitted_in, show_hosted}
use Rattle.gr_model.specs.Orders.{Order, fed, ordered, without_ordered}

-- a call of a broker: it gets a datagram, or publishes, or a subscriber joins a publisher, or it is woken for one
pub data Call : Type 0 where
  gets : ℕ → Result Frame FrameFault → Call
  publishes : Publish → Call
  joins : ℕ → ℕ → Call  -- the subscriber, the publisher
  wakes : ℕ → ℕ → Call

-- A run is made of acts: a node's address is bound, a hosted broker starts, something arrives, a broker is called, what
-- was submitted is answered, a note is dropped with its line, what is ready in one order is told, nothing comes any
-- more, and at the end all is shown
pub data Act : Type 0 where
  binds : ℕ → Act
  starts : ℕ → Act
  arrives : Arrival → Act
  calls : Call → Act
  answers : Publish → Act
  drops : Report → Act
  settles : Act
  closes : Act
  shows : Act

-- what came at a broker that is hosted, or at a quiet moment
abbrev pub is_ours : List ℕ → Arrival → Bool
is_ours hosted (datagram b bytes moment) = is_among hosted b
is_ours hosted (quiet moment) = true

abbrev pub ours : List ℕ → List Arrival → List Arrival
ours hosted came = filter (is_ours hosted) came

abbrev pub moment_of : Arrival → ℕ
moment_of (datagram b bytes moment) = moment
moment_of (quiet moment) = moment

-- The calls of an arrival

-- a request as a call
abbrev pub call_of : Request → Call
call_of (asks_publish p number e) = publishes (p, (number, e))
call_of (asks_join s p) = joins s p

-- that of the first request that is left
abbrev pub request_calls : List Request → List Call
request_calls [] = []
request_calls (x ∷ left) = call_of x ∷ []

-- a broker is woken for each publisher
abbrev pub wake_calls : ℕ → ℕ → List Call
wake_calls publishers b = map (wakes b) (numbers publishers)

-- at a quiet moment a request, where one is left, and then each hosted broker is woken for each publisher
abbrev pub quiet_calls : Net → List ℕ → List Request → List Call
quiet_calls net hosted left = request_calls left ++ flat_map (wake_calls net.publishers) hosted

-- The acts of an arrival

-- what a note submits is published and then answered, and any other note is dropped
abbrev pub submit_acts : ℕ → ℕ → Option Publish → List Act
submit_acts b p (Some x) = calls (publishes x) ∷ (answers x ∷ [])
submit_acts b p None = drops (line.DroppedStrayNote b p) ∷ []

abbrev pub note_acts : Net → ℕ → Result Note NoteFault → List Act
note_acts net b (Ok n) = submit_acts b (publisher_of n) (submitted_in net b n)
note_acts net b (Err fault) = drops (line.DroppedBadNote b (note.fault_number fault.kind) fault.at) ∷ []

-- a datagram is a note by its first bytes, and else is given to the broker that it came to
abbrev pub datagram_acts : Net → ℕ → List ℕ → List Act
datagram_acts net b bytes =
    elim (begins_note bytes) [
      | true ↦ note_acts net b (note_decoded bytes)
      | false ↦ calls (gets b (frame_decoded bytes)) ∷ []
    ]

abbrev pub acts_of : Net → List ℕ → List Request → Arrival → List Act
acts_of net hosted left (datagram b bytes moment) = if is_among hosted b then datagram_acts net b bytes else []
acts_of net hosted left (quiet moment) = map calls (quiet_calls net hosted left)

-- behind them it is told what is ready in one order, where it came at a hosted broker or at a quiet moment
abbrev pub settling : List ℕ → Arrival → List Act
settling hosted a = if is_ours hosted a then settles ∷ [] else []

-- all that an arrival leads to
abbrev pub led_to : Net → List ℕ → List Request → Arrival → List Act
led_to net hosted left a = acts_of net hosted left a ++ settling hosted a

-- an arrival, and its acts
abbrev pub arrival_acts : Net → List ℕ → List Request → Arrival → List Act
arrival_acts net hosted left a = arrives a ∷ led_to net hosted left a

unfoldable pub acts_from : Net → List ℕ → List Request → List Arrival → List Act
acts_from net hosted left [] = []
acts_from net hosted left (a ∷ came) = arrival_acts net hosted left a ++ acts_from net hosted (left_after left a) came

-- The plan

-- whether nothing comes any more after these arrivals
abbrev pub closing : Bool → List Act
closing closed = if closed then closes ∷ [] else []

-- what is done of what came
abbrev pub turn_acts : Net → List ℕ → List Line → List Arrival → Bool → List Act
turn_acts net hosted steps came closed = acts_from net hosted (requests_of net hosted steps) came ++ closing closed

-- before the first turn it is told what is ready in one order after the starts
abbrev pub run_acts : Net → List ℕ → List Line → List Arrival → Bool → List Act
run_acts net hosted steps came closed = settles ∷ turn_acts net hosted steps came closed

-- the client of a publisher, where it has one and is at a hosted broker
abbrev pub client_nodes : TopologyView → List ℕ → ℕ → List ℕ
client_nodes t hosted p =
    if is_some (client_of t p) && is_among hosted (host_of t p) then client_node p ∷ [] else []

-- the nodes that a run may speak to: every broker, and behind them the clients of the publishers at hosted brokers
abbrev pub nodes : TopologyView → List ℕ → List ℕ
nodes t hosted = numbers (length t.brokers) ++ flat_map (client_nodes t hosted) (numbers (length t.publishers))

-- every node is bound and the hosted brokers start, in order; then come the arrivals; then all is shown
unfoldable pub plan : TopologyView → List ℕ → List Line → List Arrival → Bool → List Act
plan t hosted steps came closed =
    map binds (nodes t hosted)
    ++ (map starts hosted ++ (run_acts (net_of t) hosted steps came closed ++ shows ∷ []))

-- The machine's acts

-- a broker's call
abbrev pub called : Net → World → Call → Transition
called net w (gets b r) = receives net w b r
called net w (publishes x) = publish_now net w x.0 x.1.0 x.1.1
called net w (joins s p) = join_now net w s p
called net w (wakes b p) = wake_for net w b p

-- what comes to a broker that is not hosted is passed over
unfoldable pub act : Net → List ℕ → World → Act → Transition
act net hosted w (binds b) = unchanged w []
act net hosted w (starts b) = in_turn (opened_for net) (publishers_at net (b ∷ [])) w
act net hosted w (arrives a) = unchanged (if is_ours hosted a then at_moment w (moment_of a) else w) []
act net hosted w (calls c) = called net w c
act net hosted w (answers x) = unchanged w []
act net hosted w (drops l) = unchanged w (l ∷ [])
act net hosted w settles = unchanged w []
act net hosted w closes = unchanged w []
act net hosted w shows = unchanged w (show_hosted net hosted w)

-- The lines of one order are none of the machine's. They follow from the lines that acts tell

-- what an act tells, over what was heard in one order before it
abbrev pub told_by : Net → List ℕ → World → List Order → Act → List Report
told_by net hosted w os settles = ordered os
told_by net hosted w os a = let u : Transition = act net hosted w a in u.lines

-- and what is heard in one order then
abbrev pub heard_by : Net → List ℕ → World → List Order → Act → List Order
heard_by net hosted w os settles = without_ordered os
heard_by net hosted w os a = let u : Transition = act net hosted w a in fed os u.lines

-- what acts tell, one after another
unfoldable pub told_by_acts : Net → List ℕ → World → List Order → List Act → List Report
told_by_acts net hosted w os [] = []
told_by_acts net hosted w os (a ∷ acts) =
    let u : Transition = act net hosted w a in
    told_by net hosted w os a ++ told_by_acts net hosted u.world (heard_by net hosted w os a) acts

-- The journal's entries

abbrev pub entry_of : Arrival → Entry
entry_of (datagram b bytes moment) = entry.datagram b bytes moment
entry_of (quiet moment) = entry.quiet moment

-- frames that are offered, each from its sender to its receiver in its bytes
abbrev pub offers_of : List Frame → List Entry
offers_of frames = map (λ f. entry.offered f.head.from f.head.to (frame_bytes f)) frames

-- a node's address, and whether it is hosted, as no client is
abbrev pub address_at : TopologyView → ℕ → Option (List ℕ)
address_at t n = if nat_lt n FIRST_CLIENT then address_of t n else client_of t (n - FIRST_CLIENT)

abbrev pub bound_entry : TopologyView → List ℕ → ℕ → Entry
bound_entry t hosted n = entry.bound n (unwrap_or (address_at t n) []) (is_among hosted n)

-- After a publish the host waits for the number behind the last. That the log did not take the very number that was
-- waited for means that no tick was left
abbrev pub reply_to : ℕ → Publish → Note
reply_to last x = if nat_eq x.1.0 (suc last) then Spent x.0 else Next x.0 (suc last)

-- the answer goes from the host to the client
abbrev pub reply_entry : TopologyView → ℕ → Publish → Entry
reply_entry t last x = entry.offered (host_of t x.0) (client_node x.0) (note_bytes (reply_to last x))

-- what an act puts into the journal
unfoldable pub entries : TopologyView → List ℕ → World → Act → List Entry
entries t hosted w (binds b) = bound_entry t hosted b ∷ []
entries t hosted w (starts b) = []
entries t hosted w (arrives a) = entry_of a ∷ []
entries t hosted w (answers x) = let l : Log = log_of w x.0 in reply_entry t l.last x ∷ []
entries t hosted w (drops l) = []
entries t hosted w (calls c) = let u : Transition = called (net_of t) w c in offers_of (sent_since w u.world)
entries t hosted w settles = []
entries t hosted w closes = entry.closed ∷ []
entries t hosted w shows = []

-- and what acts put there, one after another
unfoldable pub all_entries : TopologyView → List ℕ → World → List Act → List Entry
all_entries t hosted w [] = []
all_entries t hosted w (a ∷ acts) =
    let u : Transition = act (net_of t) hosted w a in entries t hosted w a ++ all_entries t hosted u.world acts
