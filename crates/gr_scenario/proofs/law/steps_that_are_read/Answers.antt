use Rattle.gr_scenario.proofs.NamedSteps.{read_steps}
use Rattle.gr_scenario.proofs.law.steps_that_are_read.Goals as goal

pub returns : goal.returns
returns c = read_steps
