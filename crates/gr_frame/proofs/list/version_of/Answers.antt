use Rattle.gr_frame.proofs.Lists.{version_of_none, version_of_some}
use Rattle.gr_frame.proofs.list.version_of.Goals as goal

pub returns-then-count-eq0 : goal.returns-then-count-eq0
returns-then-count-eq0 c = version_of_none c.args.joins.now c.len-count.result c.len-count.ensures.len c.if-count-eq0.true

pub returns : goal.returns
returns c = version_of_some c.args.joins.now c.len-count.result c.len-count.ensures.len c.if-count-eq0.false
