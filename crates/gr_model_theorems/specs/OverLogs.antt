-- What holds of every schedule that begins on logs that were found, beside the headline
use Rattle.std.specs.Prelude.{◌≡◌, ℕ, true, List}
use Rattle.gr_sched.specs.declared.step.Line.{Line}
use Rattle.gr_model.specs.declared.report.Report.{Report}
use Rattle.gr_model.specs.Net.{Net}
use Rattle.gr_model.specs.Broker.{Log}
use Rattle.gr_model.specs.World.{World}
use Rattle.gr_model_calls.specs.OneNet.{run_all, run_from}
use Rattle.gr_model.specs.Headline.{History, history}
use Rattle.gr_model.specs.Opening.{begin_over}
use Rattle.gr_model_theorems.specs.Statements.{opened_over, NothingClashes}
use Rattle.gr_model_theorems.specs.Standing.{Fits}
use Rattle.gr_model_theorems.specs.Obeys.{StepsObey}
use Rattle.gr_model_theorems.specs.Replies.{Replied_from}
use Rattle.gr_model_theorems.specs.Settles.{SweepSettles, AllGot, is_accepted}

-- the history when all brokers have started over the logs
abbrev pub began_over : Net → List Log → History
began_over net logs = begin_over net logs (opened_over net logs).lines

-- the lines of each step of a schedule from there; the world and the history after it
abbrev pub report_over : Net → List Log → List Line → List (List Report)
report_over net logs steps = run_from net (opened_over net logs).world steps

abbrev pub world_over : Net → List Log → List Line → World
world_over net logs steps = (run_all net (opened_over net logs).world steps).world

abbrev pub history_over : Net → List Log → List Line → History
history_over net logs steps = history net (began_over net logs) steps (report_over net logs steps)

pub record StandsOver (net : Net) (logs : List Log) (steps : List Line) : Type 0 where
  -- what layers above may use
  pub fits : Fits net (history_over net logs steps) (world_over net logs steps)
  -- each call obeys its rule, and each step is replied as the schedule and the frames sent demand
  pub calls : StepsObey net (opened_over net logs).world steps (report_over net logs steps)
  pub replies : Replied_from net (began_over net logs) steps (report_over net logs steps)
  -- no frame of knowledge that was sent clashes with what its receiver knows
  pub never_clashes : NothingClashes net (world_over net logs steps)
  -- a sweep that is not refused settles everything, and hands over all that is recorded
  pub sweep_settles : (k : ℕ) → is_accepted net (world_over net logs steps) ≡ true →
      SweepSettles net (world_over net logs steps) k
  pub sweep_hands_over : (k : ℕ) → is_accepted net (world_over net logs steps) ≡ true →
      AllGot net (history_over net logs steps) (world_over net logs steps) k
