use Rattle.gr_publog.proofs.Rewriting.{filled_same}
use Rattle.gr_publog.proofs.law.filled_same.Goals as goal

pub returns : goal.returns
returns c = filled_same
