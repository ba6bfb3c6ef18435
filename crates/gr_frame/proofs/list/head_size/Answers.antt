use Rattle.gr_frame.proofs.Lists.{head_of_none, head_of_some}
use Rattle.gr_frame.proofs.list.head_size.Goals as goal

pub returns-then-count-eq0-clause-size : goal.returns-then-count-eq0-clause-size
returns-then-count-eq0-clause-size c = head_of_none c.args.joins.now c.len-count.result c.len-count.ensures.len c.if-count-eq0.true

pub returns-clause-size : goal.returns-clause-size
returns-clause-size c = head_of_some c.args.joins.now c.len-count.result c.len-count.ensures.len c.if-count-eq0.false
