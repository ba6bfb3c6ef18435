-- The runs of clashes begin with the least tick
use Rattle.gr_broker.proofs.Receipts.{clashes_where}
use Rattle.gr_broker.proofs.law.clashes_have_a_least_tick.Goals as goal

pub returns : goal.returns
returns c = clashes_where
