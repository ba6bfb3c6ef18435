use Rattle.gr_publog.proofs.Filled.{stands_for_all}
use Rattle.gr_publog.proofs.law.stands_for.Goals as goal

pub returns : goal.returns
returns c = stands_for_all
