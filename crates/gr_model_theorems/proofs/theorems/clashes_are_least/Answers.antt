use Rattle.gr_model_calls.proofs.runs.LeastClash.{clash_is_least, none_clashes}
use Rattle.gr_model_theorems.proofs.theorems.clashes_are_least.Goals as goal

pub returns-clause-some : goal.returns-clause-some
returns-clause-some c = λ know piece t h i e. clash_is_least know piece t h i e

pub returns-clause-none : goal.returns-clause-none
returns-clause-none c = λ know piece h i e t. none_clashes know piece h i e t
