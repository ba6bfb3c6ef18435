use Rattle.gr_model.specs.Broker.{seen}
use Rattle.gr_model_theorems.proofs.server.CutEvents.{same_cut}
use Rattle.gr_model_theorems.proofs.server.Lanes.{are_found, opened_the_same, started_same, steps_same}
use Rattle.gr_model_theorems.proofs.theorems.forgets_the_same.Goals as goal

pub returns-clause-started : goal.returns-clause-started
returns-clause-started c = λ net steps. started_same net steps

pub returns-clause-opened : goal.returns-clause-opened
returns-clause-opened c = λ net hosted logs. opened_the_same (seen net) net hosted logs

pub returns-clause-steps : goal.returns-clause-steps
returns-clause-steps c = λ net w u l d. steps_same net w u l d

pub returns-clause-cuts : goal.returns-clause-cuts
returns-clause-cuts c = λ reclaim t l m le s. same_cut reclaim t l m le s

pub returns-clause-found : goal.returns-clause-found
returns-clause-found c = λ net logs few a. are_found net logs few a
