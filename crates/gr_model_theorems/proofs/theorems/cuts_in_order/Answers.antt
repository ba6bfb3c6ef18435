use Rattle.gr_model_theorems.proofs.joins.Always.{cuts_in_order as by_record}
use Rattle.gr_model_theorems.proofs.theorems.cuts_in_order.Goals as goal

pub returns : goal.returns
returns c = λ net steps r p j. by_record net steps p r.tree r.quiet r.steps_in j
