use Rattle.gr_model_theorems.proofs.joins.Always.{fits_always as by_steps}
use Rattle.gr_model_theorems.proofs.theorems.fits_always.Goals as goal

pub returns : goal.returns
returns c = λ net steps r. by_steps net steps r.tree r.quiet r.retry r.steps_in
