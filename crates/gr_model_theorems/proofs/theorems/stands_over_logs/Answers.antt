use Rattle.gr_model_theorems.proofs.joins.Over.{over_stands, runs_as_one}
use Rattle.gr_model_theorems.proofs.theorems.stands_over_logs.Goals as goal

pub returns-clause-stands : goal.returns-clause-stands
returns-clause-stands c = λ net logs steps r. over_stands net logs steps r.asked.tree r.asked.quiet r.asked.retry r.reopened_cuts r.asked.steps_in

pub returns-clause-same : goal.returns-clause-same
returns-clause-same c = λ net logs steps r. runs_as_one net logs steps r.asked.tree r.reopened_cuts r.asked.steps_in
