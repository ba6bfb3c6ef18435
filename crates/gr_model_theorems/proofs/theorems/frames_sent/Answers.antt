use Rattle.gr_model_theorems.proofs.joins.Always.{frames_sent as by_steps}
use Rattle.gr_model_theorems.proofs.theorems.frames_sent.Goals as goal

pub returns : goal.returns
returns c = λ net steps r. by_steps net steps r.tree r.quiet r.steps_in
