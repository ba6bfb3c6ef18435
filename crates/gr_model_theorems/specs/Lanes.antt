-- Runs over logs that code opens: these forget, and the headline holds where the record begins with what they had
use Rattle.std.specs.Prelude.{◌≤◌, ◌^◌, List, []}
use Rattle.std.specs.List.{AllByRecursion}
use Rattle.gr_sched.specs.declared.step.Line.{Line}
use Rattle.gr_model.specs.Net.{Net, numbers}
use Rattle.gr_model.specs.Broker.{Log}
use Rattle.gr_model.specs.Opening.{begin_over}
use Rattle.gr_model.specs.Headline.{Holds_from, recorded_net}
use Rattle.gr_model.specs.Arrivals.{Arrival, served}
use Rattle.gr_model_theorems.specs.Found.{AreReopened}
use Rattle.gr_model_theorems.specs.Spelled.{LateIn, NumbersIn}
use Rattle.gr_model_theorems.specs.Statements.{IsAskedRun, started_over, lines_over, over_net, served_net}
use Rattle.gr_model_theorems.specs.Served.{IsOfBytes, IsHonestRun, HeadlineServed_by}
use Rattle.gr_model_theorems.specs.Forgets.{kept_logs}

-- a run over logs that were opened: where they keep their events they are old logs
pub record IsRunOverLanes (net : Net) (logs : List Log) (steps : List Line) : Type 0 where
  pub asked : IsAskedRun net steps
  pub found : AreReopened net (kept_logs logs)

-- a server's run over them, within the limits of frames, whose journal is honest
pub record IsServedOverLanes (net : Net) (logs : List Log) (steps : List Line) (arrivals : List Arrival) : Type 0 where
  pub over : IsRunOverLanes net logs steps
  pub brokers : net.brokers ≤ 2 ^ 16
  pub publishers : net.publishers ≤ 2 ^ 16
  pub late : LateIn net
  pub numbers_in : NumbersIn steps
  pub bytes : AllByRecursion IsOfBytes arrivals
  pub honest : IsHonestRun arrivals (served net (numbers net.brokers) logs steps arrivals)

-- A schedule that begins on these logs: the headline holds, where the record begins with what they had
abbrev pub HoldsOverLanes : Net → List Log → List Line → Type 0
HoldsOverLanes net logs steps =
    Holds_from net (begin_over net (kept_logs logs) (started_over net logs).lines) steps (lines_over net logs steps)

-- the net of the joins that the logs have in the end
abbrev pub lanes_net : Net → List Log → List Line → List Arrival → Net
lanes_net net logs steps arrivals = served_net net (kept_logs logs) steps arrivals

-- A server over them: so does its headline
abbrev pub HoldsServedLanes : Net → List Log → List Line → List Arrival → Type 0
HoldsServedLanes net logs steps arrivals =
    HeadlineServed_by (recorded_net net) (over_net net (kept_logs logs) []) net (kept_logs logs) steps arrivals
    (served net (numbers net.brokers) logs steps arrivals)
