use Rattle.gr_model_theorems.proofs.joins.Always.{gets_exactly as by_record}
use Rattle.gr_model_theorems.proofs.theorems.gets_exactly.Goals as goal

pub returns : goal.returns
returns c = λ net steps r s p j y. by_record net steps s p r.tree r.quiet r.steps_in j y
