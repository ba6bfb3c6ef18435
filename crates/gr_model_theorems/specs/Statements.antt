-- What the theorems speak of, and what they say of it
use Rattle.std.specs.Prelude.{◌≡◌, ℕ, ◌≤◌, ◌<◌, ◌^◌, true, false, nat_eq, List, [], map, filter, flat_map, Option, Some}
use Rattle.std.specs.Prelude.{Ok, None}
use Rattle.std.specs.List.{AllByRecursion, list_any}
use Rattle.gr_event.specs.declared.event.Event.{Event}
use Rattle.gr_event.specs.Joins.{splits, tick_of, Joins}
use Rattle.gr_frame.specs.declared.Body.TheVariants as body
use Rattle.gr_frame.specs.declared.Frame.{Frame}
use Rattle.gr_frame.specs.Bytes.{frame_bytes}
use Rattle.gr_frame.specs.Decode.{frame_decoded}
use Rattle.gr_frame.specs.Limits.{IsFrame}
use Rattle.gr_know.specs.Values.{Known}
use Rattle.gr_sched.specs.declared.step.Line.{Line}
use Rattle.gr_model.specs.declared.report.Report.{Report}
use Rattle.gr_model.specs.Net.{Net, is_late, not_empty, numbers}
use Rattle.gr_model.specs.Tree.{IsNet, IsSubscriber, IsDistinct}
use Rattle.gr_model.specs.Broker.{Log, clashes}
use Rattle.gr_model.specs.World.{World, Transition, view_of, log_of, frame_at, start, run_all, run_from, next, sweep}
use Rattle.gr_model_calls.specs.OneNet.{last_net}
use Rattle.gr_model_calls.specs.OneNet as one
use Rattle.gr_model.specs.Opening.{opening, publishers_at, begin_over}
use Rattle.gr_model.specs.Arrivals.{served, arrived, Arrival, requests_of, clash_runs, first_of}
use Rattle.gr_model.specs.Headline.{History, record_of, delivered_events, last_horizon, GetsExactly, Holds_from}
use Rattle.gr_model.specs.Headline.{recorded_net, is_doubt_line, doubt_place, doubts_shown}
use Rattle.gr_model_calls.specs.Said.{due_between}
use Rattle.gr_model_calls.specs.Fits.{StepsIn}
use Rattle.gr_model_theorems.specs.Order.{CutsInOrder}
use Rattle.gr_model_calls.specs.Edges.{GoesOverEdge}
use Rattle.gr_model_theorems.specs.Spelled.{LateIn, NumbersIn}
use Rattle.gr_model_theorems.specs.Settles.{is_accepted}
use Rattle.gr_model_theorems.specs.Found.{AreReopened, told_at_opening}
use Rattle.gr_model_theorems.specs.ByRules.{RunsOver}
use Rattle.gr_model_theorems.specs.Served.{IsOfBytes, IsHonestRun, AllDoSteps, HeadlineServed_by}

-- Runs

-- a topology that is a tree, and a schedule whose publishers and brokers exist
pub record IsRun (net : Net) (steps : List Line) : Type 0 where
  pub tree : IsNet net
  pub steps_in : StepsIn net steps

-- such a run, where a log is not marked before it was silent for some time
pub record IsMarkedRun (net : Net) (steps : List Line) : Type 0 where
  pub tree : IsNet net
  pub quiet : 1 ≤ net.quiet
  pub steps_in : StepsIn net steps

-- and where an ask is outstanding for some time
pub record IsAskedRun (net : Net) (steps : List Line) : Type 0 where
  pub tree : IsNet net
  pub quiet : 1 ≤ net.quiet
  pub retry : 1 ≤ net.retry
  pub steps_in : StepsIn net steps

-- subscribers that are there, each once
pub record AreTotals (net : Net) (totals : List ℕ) : Type 0 where
  pub apart : IsDistinct totals
  pub there : (s : ℕ) → list_any (λ x. nat_eq x s) totals ≡ true → s < net.subscribers

-- a run before a sweep that is not refused
pub record IsSweptRun (net : Net) (steps : List Line) : Type 0 where
  pub asked : IsAskedRun net steps
  pub accepted : is_accepted net (run_all net (start net) steps).world ≡ true

-- a run in which all that is named fits into frames: of brokers, publishers, late subscribers, moments
-- and events
pub record IsSpelledRun (net : Net) (steps : List Line) : Type 0 where
  pub run : IsRun net steps
  pub brokers : net.brokers ≤ 2 ^ 16
  pub publishers : net.publishers ≤ 2 ^ 16
  pub late : LateIn net
  pub numbers_in : NumbersIn steps

-- a run over logs that were found
pub record IsRunOverLogs (net : Net) (logs : List Log) (steps : List Line) : Type 0 where
  pub asked : IsAskedRun net steps
  pub reopened_cuts : AreReopened net logs

-- a server's run over logs that were found, within the limits of frames, whose journal is honest
pub record IsServedRun (net : Net) (logs : List Log) (steps : List Line) (arrivals : List Arrival) : Type 0 where
  pub over : IsRunOverLogs net logs steps
  pub brokers : net.brokers ≤ 2 ^ 16
  pub publishers : net.publishers ≤ 2 ^ 16
  pub late : LateIn net
  pub numbers_in : NumbersIn steps
  pub bytes : AllByRecursion IsOfBytes arrivals
  pub honest : IsHonestRun arrivals (served net (numbers net.brokers) logs steps arrivals)

-- the world after all steps
abbrev pub world_after : Net → List Line → World
world_after net steps = (run_all net (start net) steps).world

-- the net as it is where a late subscriber wants what is past its join, by the joins that the logs have after all steps
abbrev pub joined_net : Net → List Line → Net
joined_net net steps = last_net net (world_after net steps)

-- Frames that were sent

-- no knowledge clashes with what its receiver knows
abbrev pub NothingClashes : Net → World → Type 0
NothingClashes net w =
    (k : ℕ) (f : Frame) (runs : Known) (js : Joins) → frame_at w k ≡ Some f → f.body ≡ body.Knowledge runs js →
    clashes (view_of w f.head.to f.head.publisher).know runs ≡ false

-- no joins that came with knowledge split from those that its receiver holds
abbrev pub NothingSplits : Net → World → Type 0
NothingSplits net w =
    (k : ℕ) (f : Frame) (runs : Known) (js : Joins) → frame_at w k ≡ Some f → f.body ≡ body.Knowledge runs js →
    splits (view_of w f.head.to f.head.publisher).joins js ≡ false

-- no frame is a stray
abbrev pub NothingStrays : Net → World → Type 0
NothingStrays net w = (k : ℕ) (f : Frame) → frame_at w k ≡ Some f → GoesOverEdge net f

-- each frame is spelled by its bytes
abbrev pub AllSpelled : World → Type 0
AllSpelled w = (k : ℕ) (f : Frame) → frame_at w k ≡ Some f → IsFrame (frame_bytes f) f

-- and they decode to it
abbrev pub AllDecode : World → Type 0
AllDecode w = (k : ℕ) (f : Frame) → frame_at w k ≡ Some f → frame_decoded (frame_bytes f) ≡ Ok f

-- Subscribers, cuts and horizons

-- each subscriber gets of each publisher exactly what it is owed, by the joins that are recorded
abbrev pub AllGetExactly : Net → History → Type 0
AllGetExactly net h = (s p : ℕ) → p < net.publishers → IsSubscriber net s → GetsExactly (recorded_net net h) h s p

-- what a late subscriber is to have of these events: nothing while it has not joined, and then those past its join
abbrev pub due_late : Net → ℕ → ℕ → ℕ → List (ℕ × Event) → Option ℕ → List (ℕ × Event)
due_late net p s n events None = []
due_late net p s n events (Some joined) = due_between net p s joined n events

-- each late subscriber got that of each publisher up to its last horizon, by the join that is recorded
abbrev pub LateGetExactly : Net → History → Type 0
LateGetExactly net h =
    (s p : ℕ) → p < net.publishers → IsSubscriber net s → is_late net s ≡ true → delivered_events s p h.lines
    ≡ due_late net p s (last_horizon s p 0 h.lines) (record_of h p).events (tick_of (record_of h p).joined s)

-- each publisher's cuts are in order
abbrev pub AllCutsInOrder : Net → History → Type 0
AllCutsInOrder net h = (p : ℕ) → p < net.publishers → CutsInOrder (recorded_net net h) h p

-- a host with subscribers has its horizon where its log is settled
abbrev pub HostsMeet : Net → World → Type 0
HostsMeet net w =
    (p : ℕ) → p < net.publishers → not_empty (net.subscribers_at (net.host p)) ≡ true →
    (view_of w (net.host p) p).horizon ≡ (log_of w p).settled

-- the doubt lines of a step stand for the places that a show shows, in order
abbrev pub DoubtsStand : Net → World → Line → Type 0
DoubtsStand net w l = map doubt_place (filter is_doubt_line (next net w l).lines) ≡ doubts_shown net l

-- the next sweep is that of the net of the joins so far
abbrev pub SweepsAsOne : Net → List Line → ℕ → Type 0
SweepsAsOne net steps k =
    sweep net (world_after net steps) k ≡ one.sweep (joined_net net steps) (world_after net steps) k

-- Over old logs, and at a server

-- all brokers start over these logs, where every call sees one net
abbrev pub opened_over : Net → List Log → Transition
opened_over net logs = one.opening net (numbers net.brokers) logs

-- and where each sees the joins that its broker holds; the world after the steps from there, and their lines
abbrev pub started_over : Net → List Log → Transition
started_over net logs = opening net (numbers net.brokers) logs

abbrev pub ended_over : Net → List Log → List Line → World
ended_over net logs steps = (run_all net (started_over net logs).world steps).world

abbrev pub lines_over : Net → List Log → List Line → List (List Report)
lines_over net logs steps = run_from net (started_over net logs).world steps

-- the net of the joins that the logs have in the end
abbrev pub over_net : Net → List Log → List Line → Net
over_net net logs steps = last_net net (ended_over net logs steps)

-- such a run is that on this net
pub record RunsOverAsOne (net : Net) (logs : List Log) (steps : List Line) : Type 0 where
  pub opens : started_over net logs ≡ opened_over (over_net net logs steps) logs
  pub run : run_all net (started_over net logs).world steps
      ≡ one.run_all (over_net net logs steps) (started_over net logs).world steps
  pub lines : lines_over net logs steps ≡ one.run_from (over_net net logs steps) (started_over net logs).world steps

-- of a schedule that begins on these logs the headline holds
abbrev pub HoldsOverLogs : Net → List Log → List Line → Type 0
HoldsOverLogs net logs steps =
    Holds_from net (begin_over net logs (started_over net logs).lines) steps (lines_over net logs steps)

-- the opening tells each log that is not empty, and what the subscribers at its host get at once, by the joins of the
-- logs
abbrev pub OpeningTells : Net → List Log → Type 0
OpeningTells net logs =
    (started_over net logs).lines
    ≡ flat_map (told_at_opening (over_net net logs []) logs) (publishers_at net (numbers net.brokers))

-- and it sends nothing
abbrev pub OpeningSendsNothing : Net → List Log → Type 0
OpeningSendsNothing net logs = (started_over net logs).world.frames ≡ []

-- what the opening and then the steps tell and leave is by the rules
abbrev pub RunsOverByRules : Net → List Log → List Line → Type 0
RunsOverByRules net logs steps =
    RunsOver (over_net net logs steps) logs steps (started_over net logs).lines (lines_over net logs steps)
    (ended_over net logs steps)

-- and nothing else is
abbrev pub RunsOverByNoOther : Net → List Log → List Line → Type 0
RunsOverByNoOther net logs steps =
    (told : List Report) (rs : List (List Report)) (w : World) → RunsOver (last_net net w) logs steps told rs w →
    (told ≡ (started_over net logs).lines) × (rs ≡ lines_over net logs steps) × (w ≡ ended_over net logs steps)

-- the world after a journal that comes to all brokers, and the net of the joins that the logs have then
abbrev pub served_end : Net → List Log → List Line → List Arrival → World
served_end net logs steps arrivals =
    arrived net (numbers net.brokers) (started_over net logs).world (requests_of net (numbers net.brokers) steps)
    arrivals

abbrev pub served_net : Net → List Log → List Line → List Arrival → Net
served_net net logs steps arrivals = last_net net (served_end net logs steps arrivals)

-- what a server of all brokers reports meets the headline, by the joins recorded so far
abbrev pub MeetsHeadlineServed : Net → List Log → List Line → List Arrival → Type 0
MeetsHeadlineServed net logs steps arrivals =
    HeadlineServed_by (recorded_net net) (over_net net logs []) net logs steps arrivals
    (served net (numbers net.brokers) logs steps arrivals)

-- each arrival does its steps on that net; and what is reported there, and the world in the end, are the same
pub record ArrivalsDoSteps (net : Net) (logs : List Log) (steps : List Line) (arrivals : List Arrival) : Type 0 where
  pub opens : started_over net logs ≡ opened_over (served_net net logs steps arrivals) logs
  pub does : AllDoSteps (served_net net logs steps arrivals) (started_over net logs).world (started_over net logs).lines
      (requests_of net (numbers net.brokers) steps) arrivals
  pub reports : served net (numbers net.brokers) logs steps arrivals
      ≡ one.served (served_net net logs steps arrivals) (numbers net.brokers) logs steps arrivals

-- the tick that is named where a datagram clashes with what is known, or none
abbrev pub FirstClash : Known → Known → Option ℕ → Type 0
FirstClash know piece tick = first_of (clash_runs know piece) ≡ tick
