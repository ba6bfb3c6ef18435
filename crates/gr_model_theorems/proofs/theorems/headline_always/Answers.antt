use Rattle.gr_model_theorems.proofs.joins.Always.{headline_always as by_record}
use Rattle.gr_model_theorems.proofs.theorems.headline_always.Goals as goal

pub returns : goal.returns
returns c = λ net steps r. by_record net steps r.tree r.quiet r.retry r.steps_in
