use Rattle.gr_audit.proofs.Wrong.{wrong_exact}
use Rattle.gr_audit.proofs.law.wrong_is_exact.Goals as goal

pub returns : goal.returns
returns c = wrong_exact
