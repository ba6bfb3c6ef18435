-- What holds of every world that a schedule leads to
use Rattle.std.specs.Prelude.{◌≡◌, ◌≢◌, ℕ, ◌≤◌, ◌<◌, true, false, nat_eq, List, [], ◌∷◌, length, get_or, None}
use Rattle.std.specs.Prelude.{if◌then◌else◌}
use Rattle.std.specs.List.{list_any}
use Rattle.gr_know.specs.declared.values.K.TheVariants.{Q}
use Rattle.gr_curio.specs.declared.asks.Moment.TheVariants.{Never}
use Rattle.gr_frame.specs.declared.Body.{Body}
use Rattle.gr_frame.specs.declared.Body.TheVariants as body
use Rattle.gr_frame.specs.declared.Frame.{Frame}
use Rattle.gr_tick.specs.Runs.{AreRuns}
use Rattle.gr_know.specs.Values.{known_at}
use Rattle.gr_model.specs.Net.{Net, is_late, all_late}
use Rattle.gr_model.specs.Broker.{View, Log}
use Rattle.gr_model.specs.World.{World, view_of, log_of, start, run_from}
use Rattle.gr_sched.specs.declared.step.Step.{Step}
use Rattle.gr_sched.specs.declared.step.Step.TheVariants as step
use Rattle.gr_sched.specs.declared.step.Line.{Line}
use Rattle.gr_model_calls.specs.Truth.{Holds, HasEvent, Facts, TrueF, KnowsTruth, WantsTruth, AllWantTruth}
use Rattle.gr_model.specs.Tree.{IsSubscriber}
use Rattle.gr_model_calls.specs.Said.{said_at, TicksRise, due_upto}
use Rattle.gr_model.specs.declared.report.Report.{Report}
use Rattle.gr_model.specs.Headline.{History, history, begin, delivered_events, last_horizon}
use Rattle.gr_model_calls.specs.Steady.{Steady}

-- what a log and the horizons of the subscribers say
abbrev pub facts : Log → (ℕ → ℕ) → Facts
facts log reached = record { settled = log.settled; said = said_at log.events; reached = reached; joined = log.joins }

-- how far a subscriber has come; for a number that is no subscriber, 0
abbrev pub reached_in : Net → World → ℕ → ℕ → ℕ
reached_in net w p s = if list_any (λ x. nat_eq x s) (net.subscribers_at (net.at s))
    then (view_of w (net.at s) p).horizon else 0

-- what was logged for a publisher so far, and how far each subscriber has come
abbrev pub facts_of : Net → World → ℕ → Facts
facts_of net w p = facts (log_of w p) (reached_in net w p)

-- a log's events rise, none is past what is settled, nor is its cut, and it keeps them all
pub record LogFits (log : Log) : Type 0 where
  pub rise : TicksRise 0 log.events
  pub past : (t : ℕ) → log.settled < t → said_at log.events t ≡ None
  pub cut : log.cut ≤ log.settled
  pub keeps : log.forgets ≡ false

-- what a horizon needs of the facts: it is not past what is settled, and the subscribers here are there
pub record IsHorizon (net : Net) (f : Facts) (b h : ℕ) : Type 0 where
  pub settled : h ≤ f.settled
  pub here : (s : ℕ) → list_any (λ x. nat_eq x s) (net.subscribers_at b) ≡ true → h ≤ f.reached s

-- a whole view
pub record ViewTrue (net : Net) (f : Facts) (p b : ℕ) (v : View) : Type 0 where
  pub know : KnowsTruth net f p b v.know
  pub wants : AllWantTruth net f p (net.children p b) v.wants
  pub asks : AreRuns Never v.asks
  pub horizon : IsHorizon net f b v.horizon
  pub held : Holds f.joined v.joins (HasEvent v.know)

-- the host knows each tick up to what is settled
abbrev pub HostKnows : View → ℕ → Type 0
HostKnows v settled = (t : ℕ) → 1 ≤ t → t ≤ settled → known_at v.know t ≢ Q

-- what was cut is true as F at the host
abbrev pub CutTrue : Net → Facts → ℕ → ℕ → ℕ → Type 0
CutTrue net f p b cut = (t : ℕ) → 1 ≤ t → t ≤ cut → TrueF net f p b t

-- what a frame says is true at its receiver; an A is true of its sender
abbrev pub BodyTrue : Net → Facts → ℕ → ℕ → ℕ → Body → Type 0
BodyTrue net f p from to (body.Knowledge runs js) = KnowsTruth net f p to runs × Holds f.joined js (HasEvent runs)
BodyTrue net f p from to (body.Curiosity runs) = WantsTruth net f p from runs
BodyTrue net f p from to (body.Expect tick) = tick ≤ f.settled

-- curiosity comes from a child
abbrev pub BodyFits : Net → ℕ → ℕ → ℕ → Body → Type 0
BodyFits net p from to (body.Curiosity runs) = list_any (λ x. nat_eq x from) (net.children p to) ≡ true
BodyFits net p from to _ = Unit {0}

-- a frame of publisher p between brokers
pub record FrameFits (net : Net) (p : ℕ) (f : Frame) : Type 0 where
  pub publisher : f.head.publisher ≡ p
  pub to_in : f.head.to < net.brokers
  pub body : BodyFits net p f.head.from f.head.to f.body

-- all frames of one call are between brokers and of publisher p
abbrev pub AllFit : Net → ℕ → List Frame → Type 0
AllFit net p [] = Unit {0}
AllFit net p (x ∷ xs) = FrameFits net p x × AllFit net p xs

-- a frame that was sent fits, and what it says is true
pub record FrameTrue (net : Net) (w : World) (f : Frame) : Type 0 where
  pub publisher_in : f.head.publisher < net.publishers
  pub fits : FrameFits net f.head.publisher f
  pub told : BodyTrue net (facts_of net w f.head.publisher) f.head.publisher f.head.from f.head.to f.body

-- each of the frames
abbrev pub AllFramesTrue : Net → World → List Frame → Type 0
AllFramesTrue net w [] = Unit {0}
AllFramesTrue net w (f ∷ fs) = FrameTrue net w f × AllFramesTrue net w fs

-- one view for each broker and publisher and one log for each publisher, each with what holds of it; and all frames
-- sent are true
pub record WorldFits (net : Net) (w : World) : Type 0 where
  pub views_long : length w.views ≡ net.brokers
  pub rows_long : (b : ℕ) → b < net.brokers → length (get_or w.views b []) ≡ net.publishers
  pub logs_long : length w.logs ≡ net.publishers
  pub views : (p b : ℕ) → p < net.publishers → b < net.brokers → ViewTrue net (facts_of net w p) p b (view_of w b p)
  pub logs : (p : ℕ) → p < net.publishers → LogFits (log_of w p)
  pub late : (p : ℕ) → p < net.publishers → all_late net (log_of w p).joins ≡ true
  pub hosts : (p : ℕ) → p < net.publishers → (view_of w (net.host p) p).joins ≡ (log_of w p).joins
  pub known : (p : ℕ) → p < net.publishers → HostKnows (view_of w (net.host p) p) (log_of w p).settled
  pub cuts : (p : ℕ) → p < net.publishers → CutTrue net (facts_of net w p) p (net.host p) (log_of w p).cut
  pub frames : AllFramesTrue net w w.frames

-- what the lines so far have told each subscriber
pub record LinesFit (net : Net) (w : World) (ls : List Report) : Type 0 where
  pub got : (p s : ℕ) → p < net.publishers → IsSubscriber net s → delivered_events s p ls
      ≡ due_upto net p s (reached_in net w p s) (log_of w p).events
  pub horizon : (p s : ℕ) → p < net.publishers → IsSubscriber net s → last_horizon s p 0 ls ≡ reached_in net w p s
  pub steady : (p s : ℕ) → p < net.publishers → IsSubscriber net s → Steady s p 0 0 ls
  -- from any tick on, so there is no line of a publisher that is not there
  pub nothing : (p s n : ℕ) → net.publishers ≤ p → Steady s p n n ls

-- the numbers of a step are in range
abbrev pub StepIn : Net → Step → Type 0
StepIn net (step.Publish p number stop e) = p < net.publishers
StepIn net (step.Wake b) = b < net.brokers
StepIn net (step.Crash b) = b < net.brokers
StepIn net (step.Join s p) = (is_late net s ≡ true) × (p < net.publishers)
StepIn net _ = Unit {0}

-- the numbers of all steps
abbrev pub StepsIn : Net → List Line → Type 0
StepsIn net [] = Unit {0}
StepsIn net (l ∷ ls) = StepIn net l.step × StepsIn net ls

-- the history of a whole schedule and its report, of which the steps' lines are all but the first, empty list
abbrev pub history_of : Net → List Line → History
history_of net ls = history net (begin net) ls (run_from net (start net) ls)
