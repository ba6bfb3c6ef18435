-- Logs that were found, and what a start over them tells
use Rattle.std.specs.Prelude.{◌≡◌, ℕ, ◌≤◌, true, nat_lt, if◌then◌else◌, List, [], ◌∷◌, ◌++◌, map, None, flat_map}
use Rattle.gr_model.specs.declared.report.Report.{Report}
use Rattle.gr_model.specs.declared.report.Report.TheVariants as line
use Rattle.gr_model.specs.Net.{Net, all_late}
use Rattle.gr_model.specs.Broker.{Log, got_line}
use Rattle.gr_model.specs.Opening.{reopened_log, reopened_line}
use Rattle.gr_model_calls.specs.Said.{said_at, due_upto}
use Rattle.gr_model_calls.specs.Fits.{LogFits}
use Rattle.gr_model_theorems.specs.Spelled.{LogIn}

-- A log as it was found, with its ticks and events within their limits. Its events are those past its cut: what was cut
-- is told to nobody any more, and its joins are of late subscribers
pub record IsReopened (net : Net) (log : Log) : Type 0 where
  pub fits : LogFits log
  pub past_cut : (t : ℕ) → t ≤ log.cut → said_at log.events t ≡ None
  pub late : all_late net log.joins ≡ true
  pub within : LogIn net.late log

-- of each publisher
abbrev pub AreReopened : Net → List Log → Type 0
AreReopened net logs = (p : ℕ) → IsReopened net (reopened_log logs p)

-- What the opening tells, said of the logs alone

-- what a subscriber at the host gets at once: the events past the cut that it wants, and its horizon
abbrev pub got_at_once : Net → Log → ℕ → ℕ → List Report
got_at_once net log p s = if nat_lt 0 log.settled then map (got_line s p) (due_upto net p s log.settled log.events)
    ++ line.Horizon s p log.settled ∷ [] else []

-- of a publisher: its log, if that is not empty, and what each subscriber at its host gets
abbrev pub told_at_opening : Net → List Log → ℕ → List Report
told_at_opening net logs p = reopened_line (reopened_log logs p) p
    ++ flat_map (got_at_once net (reopened_log logs p) p) (net.subscribers_at (net.host p))
