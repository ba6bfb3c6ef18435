use Rattle.std.proofs.Common.{length, drop, ◌≡◌, ◌-◌}
use Rattle.gr_event.specs.Joins.{tick_of}
use Rattle.gr_event.proofs.joins.Joins.tick_of.Given as goal

abbrev pub invariant-joins : goal.invariant-joins
invariant-joins l = tick_of (drop l.at l.joins) l.subscriber ≡ tick_of l.joins l.subscriber

abbrev pub decreases-joins : goal.decreases-joins
decreases-joins l = length l.joins - l.at
