use Rattle.gr_model_theorems.proofs.joins.Late.{late_gets}
use Rattle.gr_model_theorems.proofs.theorems.late_gets_past_its_join.Goals as goal

pub returns : goal.returns
returns c = λ net steps r s p j y late. late_gets net steps s p r.tree r.quiet r.steps_in j y late
