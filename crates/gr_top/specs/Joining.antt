-- What a report says where subscribers join while events flow
use Rattle.std.specs.Prelude.{◌≡◌, List, ◌++◌, drop}
use Rattle.gr_sched.specs.declared.step.Line.{Line}
use Rattle.gr_model.specs.declared.report.Report.{Report}
use Rattle.gr_model.specs.Net.{Net}
use Rattle.gr_model.specs.Headline.{history, begin, recorded_net}
use Rattle.gr_model.specs.World.{World}
use Rattle.gr_model_calls.specs.OneNet.{last_net}
use Rattle.gr_model_theorems.specs.ByRules.{ScheduleByRules}
use Rattle.gr_model_theorems.specs.Statements.{LateGetExactly}

-- A whole report is by the rules of the calls, whatever world it leaves: of the net in which a late subscriber wants
-- what is past its join, by the joins that the logs of that world have
pub record IsByRules (net : Net) (lines : List Line) (report : List (List Report)) : Type 0 where
  pub left : World
  pub schedule : ScheduleByRules (last_net net left) lines report left

-- that net by a report: the joins are those that its lines and its schedule record
abbrev pub joined_by : Net → List Line → List (List Report) → Net
joined_by net lines report = recorded_net net (history net (begin net) lines (drop 1 report))

-- After each step each late subscriber has got of each publisher exactly the recorded events past its join that its
-- filter matches, up to its last horizon, once each and in order; and while it has not joined, nothing
abbrev pub LateGetPastJoin : Net → List Line → List (List Report) → Type 0
LateGetPastJoin net lines report =
    (done left : List Line) → lines ≡ done ++ left
    → LateGetExactly net (history net (begin net) done (drop 1 report))
