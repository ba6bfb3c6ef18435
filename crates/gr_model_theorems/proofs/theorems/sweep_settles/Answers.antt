use Rattle.gr_model_theorems.proofs.joins.Always.{sweep_settles as by_phases, sweep_same}
use Rattle.gr_model_theorems.proofs.theorems.sweep_settles.Goals as goal

pub returns-clause-settles : goal.returns-clause-settles
returns-clause-settles c = λ net steps k r. by_phases net steps k r.asked.tree r.asked.quiet r.asked.retry r.asked.steps_in r.accepted

pub returns-clause-same : goal.returns-clause-same
returns-clause-same c = λ net steps k r. sweep_same net steps k r.tree r.quiet r.steps_in
