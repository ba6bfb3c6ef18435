use Rattle.gr_model_theorems.proofs.joins.Always.{schedule_by_rules, schedule_once}
use Rattle.gr_model_theorems.proofs.joins.Over.{over_by_rules, over_once}
use Rattle.gr_model_theorems.proofs.theorems.runs_by_rules.Goals as goal

pub returns-clause-allowed : goal.returns-clause-allowed
returns-clause-allowed c = λ net steps r. schedule_by_rules net steps r.tree r.quiet r.steps_in

pub returns-clause-alone : goal.returns-clause-alone
returns-clause-alone c = λ net steps rs w r a. schedule_once net steps rs w r.tree r.quiet r.steps_in a

pub returns-clause-over_logs : goal.returns-clause-over_logs
returns-clause-over_logs c = λ net logs steps r a. over_by_rules net logs steps r.tree r.quiet a r.steps_in

pub returns-clause-over_logs_alone : goal.returns-clause-over_logs_alone
returns-clause-over_logs_alone c = λ net logs steps r a told rs w o. over_once net logs steps r.tree r.quiet a r.steps_in told rs w o
