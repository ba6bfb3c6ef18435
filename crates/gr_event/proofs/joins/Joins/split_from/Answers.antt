use Rattle.std.proofs.Common.{arith}
use Rattle.gr_event.proofs.Joining.{no_split}
use Rattle.gr_event.proofs.joins.Joins.split_from.Goals as goal

pub returns-else-at-came : goal.returns-else-at-came
returns-else-at-came c =
    no_split c.joins.at c.as_slice-kept.result.now c.as_slice-came.result.now c.args.self.now c.args.other.now c.as_slice-kept.ensures.slice c.as_slice-came.ensures.slice (omega arith) c.joins.invariant.same
