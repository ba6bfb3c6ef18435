use Rattle.gr_pubend.proofs.Found.{said_settled}
use Rattle.gr_pubend.proofs.law.said_is_settled.Goals as goal

pub returns : goal.returns
returns c = said_settled
