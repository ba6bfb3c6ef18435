use Rattle.std.proofs.Common.{length}
use Rattle.gr_frame.proofs.list.+put_joins.Given as goal

abbrev pub decreases-put_joins : goal.decreases-put_joins
decreases-put_joins l = length l.joins.now
