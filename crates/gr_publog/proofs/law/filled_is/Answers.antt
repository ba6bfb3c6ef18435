use Rattle.gr_publog.proofs.Pairing.{filled_stands}
use Rattle.gr_publog.proofs.law.filled_is.Goals as goal

pub returns : goal.returns
returns c = filled_stands
