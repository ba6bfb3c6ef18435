-- What is left behind the head is as long as the list
use Rattle.std.proofs.Common.{arith}
use Rattle.gr_frame.proofs.Lists.{list_sized}
use Rattle.gr_frame.proofs.writing.put_front.Goals as goal

pub put_list-requires : goal.put_list-requires
put_list-requires c = omega (arith, c.requires, c.split_at_mut-front.ensures.back_len, list_sized c.args.joins.now)
