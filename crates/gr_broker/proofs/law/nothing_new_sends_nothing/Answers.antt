-- Of no new tick no child is sent any
use Rattle.gr_broker.proofs.Receipts.{learn_none}
use Rattle.gr_broker.proofs.law.nothing_new_sends_nothing.Goals as goal

pub returns : goal.returns
returns c = learn_none
