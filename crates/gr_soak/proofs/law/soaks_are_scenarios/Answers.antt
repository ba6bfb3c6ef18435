use Rattle.gr_soak.proofs.ScenarioRead.{soak_is}
use Rattle.gr_soak.proofs.law.soaks_are_scenarios.Goals as goal

pub returns : goal.returns
returns c = soak_is
