use Rattle.gr_model_theorems.proofs.joins.Over.{headline_over, opening_tells, opening_sends_nothing}
use Rattle.gr_model_theorems.proofs.theorems.headline_over_logs.Goals as goal

pub returns-clause-schedules : goal.returns-clause-schedules
returns-clause-schedules c = λ net logs steps r. headline_over net logs steps r.asked.tree r.asked.quiet r.asked.retry r.reopened_cuts r.asked.steps_in

pub returns-clause-told : goal.returns-clause-told
returns-clause-told c = λ net logs n a. opening_tells net logs n a

pub returns-clause-sends : goal.returns-clause-sends
returns-clause-sends c = λ net logs n a. opening_sends_nothing net logs n a
