use Rattle.std.proofs.Common.{◌∙◌, ap, arith}
use Rattle.gr_event.specs.Joins.{last_join_tick}
use Rattle.gr_event.proofs.Joining.{last_is}
use Rattle.gr_event.proofs.joins.Joins.last_tick.Goals as goal

pub returns-in-len1-up : goal.returns-in-len1-up
returns-in-len1-up c = last_is 0 c.as_slice.result.now _ _ (omega (arith, c.in-len1-up.len_at_least)) ∙ ap last_join_tick c.as_slice.ensures.slice
