use Rattle.gr_model_theorems.proofs.joins.Always.{replied_always}
use Rattle.gr_model_theorems.proofs.theorems.replies_stand.Goals as goal

pub returns : goal.returns
returns c = λ net steps r. replied_always net steps r.tree r.quiet r.steps_in
