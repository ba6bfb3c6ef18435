use Rattle.gr_order.proofs.Prefix.{begins}
use Rattle.gr_order.proofs.law.gives_one_order.Goals as goal

pub returns : goal.returns
returns c = begins
