use Rattle.gr_order.proofs.Prefix.{one_list}
use Rattle.gr_order.proofs.law.is_one_list.Goals as goal

pub returns : goal.returns
returns c = one_list
