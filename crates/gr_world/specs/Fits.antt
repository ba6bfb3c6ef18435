-- A world and the run that led to it: the lanes of its disk, the steps that its calls have made, and what they told
use Rattle.std.specs.Prelude.{◌≡◌, ℕ, true, false, List, [], ◌∷◌, ◌++◌, Some, Result}
use Rattle.gr_out.specs.Lane.{Lane}
use Rattle.gr_sched.specs.declared.step.Step.{Step}
use Rattle.gr_sched.specs.declared.step.Line.{Line}
use Rattle.gr_model.specs.declared.report.Report.{Report}
use Rattle.gr_model.specs.NetOf.{IsOrderly}
use Rattle.gr_model.specs.Tree.{IsNet}
use Rattle.gr_model.specs.Net.{Net}
use Rattle.gr_model.specs.World.{World, report_of, run_all, start_by, sweep}
use Rattle.gr_model_calls.specs.Fits.{StepsIn, history_of}
use Rattle.gr_model_calls.specs.OneNet as one
use Rattle.gr_model_theorems.specs.Forgets.{TellTheSame}
use Rattle.gr_model_theorems.specs.Settles.{SweepSettles, AllGot}
use Rattle.gr_model_theorems.specs.Statements.{world_after, joined_net}
use Rattle.gr_world.specs.declared.fault.WorldFault.{WorldFault}
use Rattle.gr_world.specs.Seen.{WorldView, net_in, world_of}
use Rattle.gr_world.specs.Of.{IsWorld, LanesFit, IsSound}
use Rattle.gr_world.specs.Steps.{lines_of_step}

-- the machine's world after steps, where a cut drops the events that it lets go, as the logs of code do
abbrev pub forgetting_after : Net → List Line → World
forgetting_after net steps = (run_all net (start_by true net) steps).world

-- The world is the one that these steps lead to, from a start over empty lanes; each of its calls was answered, by
-- these lines
pub record Fits (w : WorldView) (lanes : ℕ → Lane) (steps : List Line) (told : List (List Report)) : Type 0 where
  pub world : IsWorld w
  pub lanes_fit : LanesFit lanes w
  -- no call has failed
  pub sound : IsSound w
  pub unspent : w.spent ≡ false
  -- the topology is a tree, which the steps are of
  pub tree : IsNet (net_in w)
  pub orderly : IsOrderly (net_in w)
  pub steps_in : StepsIn (net_in w) steps
  -- it is the machine's world after these steps, and what was told is the machine's report
  pub reached : world_of w ≡ forgetting_after (net_in w) steps
  pub report : told ≡ report_of (net_in w) steps

-- A call that makes a step goes on with a run: where it has lines, those of its answer or of its refusal, the world and
-- the lanes that it leaves fit the steps with this one, and what was told with these lines
abbrev pub GoesOn : Step → (ℕ → Lane) → (ℕ → Lane) → WorldView → WorldView → Result (List Report) WorldFault → Type 0
GoesOn s lanes lanes' old new result =
    (number : ℕ) (lines : List Report) (steps : List Line) (told : List (List Report))
    → lines_of_step number s result ≡ Some lines → Fits old lanes steps told
    → Fits new lanes' (steps ++ record { number = number; step = s } ∷ []) (told ++ lines ∷ [])

-- What a sweep reaches after these steps, whatever the number k of its line. It joins no one, so all its calls are on
-- the net of the joins so far
pub record SettlesAll (steps : List Line) (old new : WorldView) (lines : List Report) : Type 0 where
  pub is : (k : ℕ) → sweep (net_in old) (world_of old) k ≡ record { world = world_of new; lines = lines }
  -- the machine whose logs keep all events tells the same lines, and is then in the same world but for events that were
  -- cut
  pub on_one : (k : ℕ) → TellTheSame
      (one.sweep (joined_net (net_in old) steps) (world_after (net_in old) steps) k)
      (record { world = world_of new; lines = lines })
  -- there every kept horizon, what is settled of every log, and every cut are its moment; all that it sends but what is
  -- to be expected is delivered in it, once; its lines say so
  pub settles : (k : ℕ) → SweepSettles (joined_net (net_in old) steps) (world_after (net_in old) steps) k
  -- every subscriber has got exactly what is recorded that it wants, a late one by its join
  pub all_got : (k : ℕ) → AllGot (joined_net (net_in old) steps) (history_of (net_in old) steps)
      (world_after (net_in old) steps) k
