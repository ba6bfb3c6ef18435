use Rattle.gr_model_theorems.proofs.joins.Always.{sweep_hands_over as by_phases}
use Rattle.gr_model_theorems.proofs.theorems.sweep_hands_over.Goals as goal

pub returns : goal.returns
returns c = λ net steps k r. by_phases net steps k r.asked.tree r.asked.quiet r.asked.retry r.asked.steps_in r.accepted
