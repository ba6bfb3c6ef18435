use Rattle.std.proofs.Common.{length, drop, ◌≡◌, ◌-◌}
use Rattle.gr_event.specs.Joins.{has_joined}
use Rattle.gr_event.proofs.joins.Joins.has.Given as goal

abbrev pub invariant-joins : goal.invariant-joins
invariant-joins l = has_joined (drop l.at l.joins) l.subscriber ≡ has_joined l.joins l.subscriber

abbrev pub decreases-joins : goal.decreases-joins
decreases-joins l = length l.joins - l.at
