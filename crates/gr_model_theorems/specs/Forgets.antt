-- Logs that forget: a cut drops the events that it lets go. Such logs are compared with those that keep all events
use Rattle.std.specs.Prelude.{◌≡◌, ℕ, ◌≤◌, Bool, true, false, List, [], ◌∷◌, map}
use Rattle.std.specs.List.{AllByRecursion}
use Rattle.gr_event.specs.declared.event.Event.{Event}
use Rattle.gr_publog.specs.State.{IsState}
use Rattle.gr_publog.specs.Views.{LogView}
use Rattle.gr_pubend.specs.Log.{past, cut_log_at, said}
use Rattle.gr_sched.specs.declared.step.Line.{Line}
use Rattle.gr_model.specs.Net.{Net}
use Rattle.gr_model.specs.Broker.{View, Log, seen}
use Rattle.gr_model.specs.World.{World, Transition, start_by, next, run_all, run_all_by, run_from, run_from_by}
use Rattle.gr_model.specs.Opening.{opening_by}
use Rattle.gr_model.specs.Arrivals.{Arrival, requests_of, served_by, arrived_by}

-- Logs

-- the log with other events, whether it forgets or not
abbrev pub with_events : Log → List (ℕ × Event) → Bool → Log
with_events l events forgets = record {
  last = l.last;
  settled = l.settled;
  cut = l.cut;
  events = events;
  joins = l.joins;
  generation = l.generation;
  size = l.size;
  forgets = forgets;
}

-- the second log differs from the first in nothing but events up to the cut, and whether it forgets
pub record SameLog (l m : Log) : Type 0 where
  pub events : List (ℕ × Event)
  pub forgets : Bool
  pub is : m ≡ with_events l events forgets
  pub past_same : past l.cut events ≡ past l.cut l.events

-- so it is of two lists of logs, one by one
abbrev pub SameLogs : List Log → List Log → Type 0
SameLogs [] [] = Unit {0}
SameLogs (l ∷ ls) (m ∷ ms) = SameLog l m × SameLogs ls ms
SameLogs [] (m ∷ ms) = ⊥
SameLogs (l ∷ ls) [] = ⊥

-- two worlds that differ in nothing but such events of their logs, and whether these forget
pub record DifferInCut (w u : World) : Type 0 where
  pub clock : u.clock ≡ w.clock
  pub most : u.most ≡ w.most
  pub frames : u.frames ≡ w.frames
  pub views : u.views ≡ w.views
  pub logs : SameLogs w.logs u.logs

-- two transitions that tell the same lines, and lead to two such worlds
pub record TellTheSame (t u : Transition) : Type 0 where
  pub lines : u.lines ≡ t.lines
  pub worlds : DifferInCut t.world u.world

-- so a step does from two such worlds
abbrev pub StepsTellTheSame : Type 0
StepsTellTheSame = (net : Net) (w u : World) (l : Line) → DifferInCut w u → TellTheSame (next net w l) (next net u l)

-- at a later cut two such logs become two such logs: by a record both, or both written anew
abbrev pub CutsStaySame : Type 0
CutsStaySame = (reclaim t : ℕ) (l m : Log) → l.cut ≤ t → SameLog l m
    → SameLog (cut_log_at reclaim l t) (cut_log_at reclaim m t)

-- From the start

-- logs that forget lead to the same lines, and to a world that differs in nothing but events that were cut
pub record ForgetTheSame (net : Net) (steps : List Line) : Type 0 where
  pub lines : run_from net (start_by true net) steps ≡ run_from net (start_by false net) steps
  pub worlds : DifferInCut (run_all net (start_by false net) steps).world (run_all net (start_by true net) steps).world

-- Logs that were opened

-- the log that keeps its events from now on, and so for each of some logs
abbrev pub keeping : Log → Log
keeping l = with_events l l.events false

abbrev pub kept_logs : List Log → List Log
kept_logs logs = map keeping logs

-- What a log is that was opened, where these subscribers may join: it says what a log of code holds. That may be an
-- empty one, as it is of each publisher that is not at the hosted brokers
pub record WasOpened (subscribers : List ℕ) (log : Log) : Type 0 where
  pub view : LogView
  pub state : IsState view.state
  pub late : view.state.late ≡ subscribers
  pub says : keeping log ≡ keeping (said view)

-- of each publisher
abbrev pub AllOpened : List ℕ → List Log → Type 0
AllOpened late logs = AllByRecursion (WasOpened late) logs

-- the world after a journal that comes to these brokers over these logs
abbrev pub served_on : (View → Net) → Net → List ℕ → List Log → List Line → List Arrival → World
served_on see net hosted logs steps arrivals =
    arrived_by see net hosted (opening_by see net hosted logs).world (requests_of net hosted steps) arrivals

-- Whatever comes to the hosted brokers, and whatever net each call sees: logs that forget, and the same logs that keep
-- their events, lead to the same lines, and to worlds that differ in nothing but events that were cut
pub record OpenedTheSame_by (see : View → Net) (net : Net) (hosted : List ℕ) (logs : List Log) : Type 0 where
  pub opened : (opening_by see net hosted logs).lines ≡ (opening_by see net hosted (kept_logs logs)).lines
  pub stepped : (steps : List Line) →
      DifferInCut (run_all_by see net (opening_by see net hosted (kept_logs logs)).world steps).world
      (run_all_by see net (opening_by see net hosted logs).world steps).world
  pub lines : (steps : List Line) → run_from_by see net (opening_by see net hosted logs).world steps
      ≡ run_from_by see net (opening_by see net hosted (kept_logs logs)).world steps
  pub served_same : (steps : List Line) (arrivals : List Arrival) →
      served_by see net hosted logs steps arrivals ≡ served_by see net hosted (kept_logs logs) steps arrivals
  pub arrived_same : (steps : List Line) (arrivals : List Arrival) →
      DifferInCut (served_on see net hosted (kept_logs logs) steps arrivals)
      (served_on see net hosted logs steps arrivals)

-- where each call sees the joins that its broker holds
abbrev pub OpenedTheSame : Net → List ℕ → List Log → Type 0
OpenedTheSame net = OpenedTheSame_by (seen net) net
