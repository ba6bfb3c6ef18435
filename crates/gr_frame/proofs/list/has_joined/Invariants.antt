use Rattle.std.proofs.Common.{length, drop, ◌≡◌, ◌-◌}
use Rattle.gr_event.specs.Joins.{has_joined}
use Rattle.gr_frame.proofs.list.has_joined.Given as goal

abbrev pub invariant-joins : goal.invariant-joins
invariant-joins l = has_joined (drop l.at l.before) l.subscriber ≡ has_joined l.before l.subscriber

abbrev pub decreases-joins : goal.decreases-joins
decreases-joins l = length l.before - l.at
