use Rattle.gr_world.proofs.Fitted.{stands_of, differs_in_cut}
use Rattle.gr_world.proofs.law.every_run_stands.Goals as goal

pub returns-clause-stands : goal.returns-clause-stands
returns-clause-stands c = stands_of

pub returns-clause-same : goal.returns-clause-same
returns-clause-same c = differs_in_cut
