-- The last one has the greatest tick
use Rattle.std.proofs.Common.{arith}
use Rattle.gr_event.proofs.Joining.{last_is}
use Rattle.gr_publog.proofs.read.last_tick.Goals as goal

pub returns-in-len1-up : goal.returns-in-len1-up
returns-in-len1-up c = last_is 0 c.args.joins.now _ _ (omega (arith, c.in-len1-up.len_at_least))
