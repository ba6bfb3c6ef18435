use Rattle.gr_model_theorems.proofs.joins.Always.{doubts_stand as by_step}
use Rattle.gr_model_theorems.proofs.theorems.doubts_stand.Goals as goal

pub returns : goal.returns
returns c = λ net steps l r j. by_step net steps l r.tree r.steps_in j
