use Rattle.gr_report.proofs.Steps.{steps_in, numbers_in}
use Rattle.gr_report.proofs.law.steps_fit_the_theorems.Goals as goal

pub returns : goal.returns
returns c = λ t ls h. (steps_in t ls h, numbers_in t ls h)
