use Rattle.std.proofs.Common.{length, drop, ◌≡◌, ◌-◌, ◌≤◌}
use Rattle.gr_event.specs.Joins.{first_split}
use Rattle.gr_event.proofs.joins.Joins.split_from.Given as goal

abbrev pub invariant-joins : goal.invariant-joins
invariant-joins l = record {
  kept : l.at ≤ length l.kept;
  came : l.at ≤ length l.came;
  same : first_split l.at (drop l.at l.kept) (drop l.at l.came) ≡ first_split 0 l.kept l.came;
}

abbrev pub decreases-joins : goal.decreases-joins
decreases-joins l = length l.kept - l.at
