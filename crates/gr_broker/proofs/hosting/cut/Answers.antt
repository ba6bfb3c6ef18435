-- Where nothing is to be cut the lanes are as they were
use Rattle.std.proofs.Common.{None, ◌∙◌, sym, refl}
use Rattle.gr_pubend.proofs.Cuts.{cuts_none}
use Rattle.gr_broker.proofs.hosting.cut.Goals as goal

pub returns-in-Ok-clause-lane : goal.returns-in-Ok-clause-lane
returns-in-Ok-clause-lane g c = λ t. cuts_none c.args.log.now _ _ _ _ _ (sym c.cut_due.ensures.tick ∙ c.in-None.is) refl

pub returns-in-Err-clause-lane : goal.returns-in-Err-clause-lane
returns-in-Err-clause-lane g c = λ t. cuts_none c.args.log.now _ _ _ _ _ (sym c.cut_due.ensures.tick ∙ c.in-None.is) refl
