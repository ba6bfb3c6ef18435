use Rattle.gr_audit_theorems.proofs.Yes.{yes_is_one_run}
use Rattle.gr_audit_theorems.proofs.law.a_yes_is_one_honest_run.Goals as goal

pub returns : goal.returns
returns c = λ t steps bytes asked brokers publishers late numbers_in yes.
    yes_is_one_run c.headline_joint.ensures.headline c.stuck_is_exact.ensures.exact c.stuck_is_exact.ensures.stays c.wrong_is_exact.ensures t steps bytes asked brokers publishers late numbers_in yes
