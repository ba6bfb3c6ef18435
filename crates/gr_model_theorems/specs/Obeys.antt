-- The calls of each step in their order: each obeys its rule, and the step's lines are theirs and its own
use Rattle.std.specs.Prelude.{◌≡◌, ℕ, suc, max, Bool, true, false, ◌&&◌, ◌||◌, nat_eq, nat_le, if◌then◌else◌, List, []}
use Rattle.std.specs.Prelude.{◌∷◌, ◌++◌, length, map, filter, set, Option, Some, None}
use Rattle.gr_event.specs.declared.event.Event.{Event}
use Rattle.gr_frame.specs.declared.Frame.{Frame}
use Rattle.gr_sched.specs.declared.step.Step.TheVariants as step
use Rattle.gr_sched.specs.declared.step.Line.{Line}
use Rattle.gr_model.specs.declared.report.Report.{Report}
use Rattle.gr_model.specs.declared.report.Report.TheVariants as line
use Rattle.gr_model.specs.Net.{Net, not_empty, numbers}
use Rattle.gr_model.specs.Broker.{View, Log, Outcome, max_tick, started}
use Rattle.gr_model.specs.World.{World, Transition, view_of, log_of, with_view, sent_lines, in_turn}
use Rattle.gr_model_calls.specs.OneNet.{publish_now, join_now, next}
use Rattle.gr_model.specs.World.{frame_at, start}
use Rattle.gr_model.specs.Headline.{says_kept}
use Rattle.gr_model_theorems.specs.Settles.{Call, wakes, delivers, made, at_sweep, sweep_calls, is_accepted}
use Rattle.gr_model_calls.specs.Rules.{TakesJoin, Publishes, Wakes, Comes}

-- a call of a broker: a publish at its host, a wake, or the frame of a number that reaches its receiver
pub data Action : Type 0 where
  publishes : ℕ → ℕ → Event → Action
  joins : ℕ → ℕ → Action  -- the subscriber, the publisher
  makes : Call → Action

-- what it does
abbrev pub done : Net → World → Action → Transition
done net w (publishes p number e) = publish_now net w p number e
done net w (joins s p) = join_now net w s p
done net w (makes c) = made net w c

-- one after another
abbrev pub all_done : Net → List Action → World → Transition
all_done net cs w = in_turn (done net) cs w

-- The call of broker b for publisher p has an outcome by the rule, of the view and the log that b and p have now
pub record Obeys (net : Net) (w : World) (a : Action) (b p : ℕ) (Rule : View → Log → Outcome → Type 0) : Type 0 where
  pub outcome : Outcome
  pub rule : Rule (view_of w b p) (log_of w p) outcome
  -- its lines are told, and then a line for each of its frames, numbered on from all that were sent before
  pub lines : (done net w a).lines ≡ outcome.lines ++ sent_lines (suc (length w.frames)) outcome.frames
  pub frames : (done net w a).world.frames ≡ w.frames ++ outcome.frames
  -- the view of b for p and the log of p are those of the outcome, and nothing else changes
  pub views : (done net w a).world.views ≡ with_view w.views b p outcome.view
  pub logs : (done net w a).world.logs ≡ set w.logs p outcome.log
  pub clock : (done net w a).world.clock ≡ w.clock
  pub most : (done net w a).world.most ≡ w.most

-- each call by its rule; the frame that is delivered is the one of that number
abbrev pub CallObeys : Net → World → Action → Type 0
CallObeys net w (publishes p number e) =
    Obeys net w (publishes p number e) (net.host p) p (Publishes net p (net.host p) w.clock number e)
CallObeys net w (joins s p) =
    Obeys net w (joins s p) (net.host p) p (TakesJoin net p (net.host p) w.clock s)
CallObeys net w (makes (wakes b p)) = Obeys net w (makes (wakes b p)) b p (Wakes net p b w.clock)
CallObeys net w (makes (delivers k)) = (f : Frame) × (frame_at w k ≡ Some f)
    × Obeys net w (makes (delivers k)) f.head.to f.head.publisher
    (Comes net f.head.publisher f.head.from f.head.to w.clock f.body)

-- and so does each of a list, in the world that the calls before it leave
abbrev pub AllObey : Net → List Action → World → Type 0
AllObey net [] w = Unit {0}
AllObey net (c ∷ cs) w = CallObeys net w c × AllObey net cs (done net w c).world

-- the next number of a publisher, whose tick is not past the last one
abbrev pub is_next_of : World → ℕ → ℕ → Bool
is_next_of w p number = nat_eq number (suc (log_of w p).last)
    && nat_le (max (suc (log_of w p).settled) w.clock) max_tick

-- The calls of a step. A publish is one call; but where it is stopped, none if its host has a subscriber, and none if
-- it would be logged, since then the host crashes within. A join is one call. A wake is one call for each publisher. A
-- frame that was sent is delivered by one call. A sweep that is not refused has those of `sweep_calls`. The other steps
-- have none.
unfoldable pub calls_of : Net → World → Line → List Action
calls_of net w l =
    elim l.step [
      | step.Publish p number stop e ↦ elim stop [
        | None ↦ publishes p number e ∷ []
        | Some s ↦
            if not_empty (net.subscribers_at (net.host p)) || is_next_of w p number then []
            else publishes p number e ∷ []
      ]
      | step.Join s p ↦ joins s p ∷ []
      | step.Wake b ↦ map (λ p. makes (wakes b p)) (numbers net.publishers)
      | step.Deliver k ↦ elim (frame_at w k) [ None ↦ [] | Some f ↦ makes (delivers k) ∷ [] ]
      | step.Sweep ↦ if is_accepted net w then map makes (sweep_calls net w) else []
      | _ ↦ []
    ]

-- a sweep's calls are made at its moment
unfoldable pub called_in : Net → World → Line → World
called_in net w l = elim l.step [ step.Sweep ↦ if is_accepted net w then at_sweep net w else w | _ ↦ w ]

-- the line is of no call: a refusal or bytes, a crash with what was kept, lost and opened, the end of a sweep, or a
-- show
abbrev pub is_own : Report → Bool
is_own (line.Crashed b) = true
is_own (line.Kept p n t) = true
is_own (line.Lost p n t) = true
is_own (line.Opened p last settled cut) = true
is_own (line.Swept m) = true
is_own (line.Frames n) = true
is_own (line.LogOf p last settled cut kept) = true
is_own (line.Doubt b p t) = true
is_own (line.RefusedHosts n b) = true
is_own (line.RefusedFrame n k sent) = true
is_own (line.RefusedClock n m) = true
is_own (line.BytesOf k bytes) = true
is_own _ = false

-- the broker that crashed, by the first of a step's own lines
abbrev pub crashed_by_line : Report → Option ℕ
crashed_by_line (line.Crashed b) = Some b
crashed_by_line _ = None

abbrev pub crashed_in : List Report → Option ℕ
crashed_in [] = None
crashed_in (l ∷ ls) = crashed_by_line l

-- what a step's calls leave and tell
abbrev pub called : Net → World → Line → Transition
called net w l = all_done net (calls_of net w l) (called_in net w l)

-- Of one step and its lines
pub record StepObeys (net : Net) (w : World) (l : Line) (ls : List Report) : Type 0 where
  -- each of its calls obeys its rule
  pub obey : AllObey net (calls_of net w l) (called_in net w l)
  -- the lines are those of its calls, in order, and then its own
  pub own : List Report
  pub lines : ls ≡ (called net w l).lines ++ own
  pub own_only : filter is_own own ≡ own
  -- no frame is sent but by its calls
  pub frames : (next net w l).world.frames ≡ (called net w l).world.frames
  -- where no broker crashes no view changes but by its calls; a broker that crashes starts again with what the logs
  -- then say
  pub views : crashed_in own ≡ None → (next net w l).world.views ≡ (called net w l).world.views
  pub restarts : (b : ℕ) → crashed_in own ≡ Some b → (next net w l).world.views
      ≡ set w.views b (map (λ p. started net p b (log_of (next net w l).world p)) (numbers net.publishers))
  -- no log changes but by its calls, and by a stopped publish that was kept
  pub logs : says_kept own ≡ false → (next net w l).world.logs ≡ (called net w l).world.logs

-- the same of each step, in the world that the steps before it leave
abbrev pub StepsObey : Net → World → List Line → List (List Report) → Type 0
StepsObey net w [] [] = Unit {0}
StepsObey net w (l ∷ ls) (r ∷ rs) = StepObeys net w l r × StepsObey net (next net w l).world ls rs
StepsObey net w [] (r ∷ rs) = ⊥
StepsObey net w (l ∷ ls) [] = ⊥

-- each step of a report, whose first list is of the start and empty
abbrev pub CallsObey : Net → List Line → List (List Report) → Type 0
CallsObey net steps [] = ⊥
CallsObey net steps (r ∷ rs) = (r ≡ []) × StepsObey net (start net) steps rs
