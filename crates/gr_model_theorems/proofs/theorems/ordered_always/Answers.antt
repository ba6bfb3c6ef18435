use Rattle.gr_model_theorems.proofs.joins.Always.{ordered_always as by_record}
use Rattle.gr_model_theorems.proofs.theorems.ordered_always.Goals as goal

pub returns : goal.returns
returns c = λ net totals steps r a. by_record net totals steps r.tree r.quiet r.steps_in a.apart a.there
