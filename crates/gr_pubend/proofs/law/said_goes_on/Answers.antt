use Rattle.gr_pubend.proofs.Found.{goes_on}
use Rattle.gr_pubend.proofs.law.said_goes_on.Goals as goal

pub returns : goal.returns
returns c = goes_on
