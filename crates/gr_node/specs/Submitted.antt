-- What the log of a publisher gets in a run: each event takes the number behind the last and has its line, and of a
-- publisher with a client it is the event that this submits with that number
use Rattle.std.specs.Prelude.{◌≡◌, ℕ, suc, ◌+◌, ◌<◌, ◌≤◌, Bool, false, nat_eq, Ok, Some, IsSome}
use Rattle.std.specs.Prelude.{List, [], ◌∷◌, ◌++◌, length, map, take, filter, get_or, slice_get}
use Rattle.std.specs.List.{AllByRecursion}
use Rattle.gr_event.specs.declared.event.Event.{Event}
use Rattle.gr_event.specs.Joins.{Joins}
use Rattle.gr_note.specs.declared.note.Note.TheVariants.{Submit, Next}
use Rattle.gr_note.specs.Bytes.{note_bytes}
use Rattle.gr_note.specs.Decode.{note_decoded}
use Rattle.gr_note.specs.Nodes.{client_node}
use Rattle.gr_out.specs.Entry.{Entry}
use Rattle.gr_publog.specs.State.{LogState}
use Rattle.gr_publog.specs.Lanes.{state_in}
use Rattle.gr_pubend.specs.Log.{Log, empty_log, past}
use Rattle.gr_sched.specs.declared.step.Line.{Line}
use Rattle.gr_topo.specs.Topology.{TopologyView, host_of, client_of}
use Rattle.gr_model.specs.declared.report.Report.{Report}
use Rattle.gr_model.specs.declared.report.Report.TheVariants as line
use Rattle.gr_model.specs.NetOf.{net_of}
use Rattle.gr_model.specs.World.{Transition, in_turn}
use Rattle.gr_model.specs.Arrivals.{Arrival, datagram, quiet}
use Rattle.gr_node.specs.Lasting.{log_read}
use Rattle.gr_node.specs.Plan.{Act, act, plan}
use Rattle.gr_node.specs.Served.{Course, world_before, is_offer_to}

-- ticks rise from above one tick on up to another
abbrev pub RiseWithin : ℕ → ℕ → List (ℕ × Event) → Type 0
RiseWithin low high [] = low ≤ high
RiseWithin low high (x ∷ xs) = (low < x.0) × RiseWithin x.0 high xs

-- What a client submits

-- an arrival at the publisher's host that submits an event of it submits the one with that number in the list, from 1
abbrev pub IsSubmission : TopologyView → ℕ → List Event → Arrival → Type 0
IsSubmission t p es (datagram b bytes moment) = b ≡ host_of t p
    → (n : ℕ) (e : Event) → note_decoded bytes ≡ Ok (Submit p (suc n) e) → slice_get es n ≡ Some e
IsSubmission t p es (quiet moment) = Unit {0}

abbrev pub AreSubmissions : TopologyView → ℕ → List Event → List Arrival → Type 0
AreSubmissions t p es came = AllByRecursion (IsSubmission t p es) came

-- The log holds the first events of the list, as many as its last number says, those up to its cut among them that it
-- may have forgotten
pub record IsFirstOf (es : List Event) (log : Log) : Type 0 where
  pub within : log.last ≤ length es
  pub logged : List (ℕ × Event)
  pub ticks : RiseWithin 0 log.settled logged
  pub events : map (λ x. x.1) logged ≡ take log.last es
  pub past_cut : past log.cut log.events ≡ past log.cut logged

-- What is logged

-- the line tells that an event of the publisher was logged
abbrev pub is_logged : ℕ → Report → Bool
is_logged p (line.Logged q number tick) = nat_eq q p
is_logged p _ = false

-- the lines of events that were logged one after another, the first with the number n
abbrev pub logged_as : ℕ → ℕ → List (ℕ × Event) → List Report
logged_as p n [] = []
logged_as p n (x ∷ xs) = line.Logged p n x.0 ∷ logged_as p (suc n) xs

-- A log got new events and no others, and these were told: each took the number behind the last, and a tick past what
-- was settled. Past its cut it has what it had, and the new ones behind that; and it has all joins
pub record Logs (p : ℕ) (before after : Log) (told : List Report) (new : List (ℕ × Event)) : Type 0 where
  pub ticks : RiseWithin before.settled after.settled new
  pub cut : before.cut ≤ after.cut
  pub joined : (more : Joins) × (after.joins ≡ before.joins ++ more)
  pub events : past after.cut after.events ≡ past after.cut (before.events ++ new)
  pub last : after.last ≡ before.last + length new
  pub lines : filter (is_logged p) told ≡ logged_as p (suc before.last) new

-- A run

-- the log of a publisher that was found
abbrev pub log_found : Course → ℕ → Log
log_found c p = get_or c.logs p empty_log

-- what acts lead to and tell, from the first on; all that were made lead to the end
abbrev pub after_acts : TopologyView → List ℕ → Course → List Act → Transition
after_acts t hosted c done = in_turn (act (net_of t) hosted) done (world_before t c)

-- these acts are the first of the plan, as all that were made are, and all that were made up to some time
pub record AreFirst (t : TopologyView) (hosted : List ℕ) (steps : List Line) (c : Course) (done : List Act)
    : Type 0 where
  pub left : List Act
  pub parts : done ++ left ≡ plan t hosted steps c.came c.closed

-- what came for a publisher is what a client submits that has these events
pub record IsOfClient (t : TopologyView) (c : Course) (p : ℕ) (es : List Event) : Type 0 where
  pub publisher : p < length t.publishers
  pub client : IsSome (client_of t p)
  pub submissions : AreSubmissions t p es c.came

-- a pair of images holds a log that has every number below this one
abbrev pub HasNumbers : List ℕ → ℕ → List ℕ → List ℕ → Type 0
HasNumbers late n a b = (s : LogState) × (state_in late a b ≡ Ok s) × (n ≤ suc s.last)

-- a pair of images holds a log of the first events of the list
abbrev pub HoldsFirstOf : List ℕ → List Event → List ℕ → List ℕ → Type 0
HoldsFirstOf late es a b = (s : LogState) × (state_in late a b ≡ Ok s) × IsFirstOf es (log_read s)

-- the entry offers to the publisher's client that the number n comes next
abbrev pub offers_next : ℕ → ℕ → Entry → Bool
offers_next p n e = is_offer_to (client_node p) (note_bytes (Next p n)) e
