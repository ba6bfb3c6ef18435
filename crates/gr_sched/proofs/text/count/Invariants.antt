use Rattle.std.proofs.Common.{length, ◌≡◌, ◌+◌, ◌-◌, ◌≤◌}
use Rattle.gr_sched.specs.Text.{pieces_of, counted_after, counted_lines}
use Rattle.gr_sched.proofs.text.count.Given as goal

abbrev pub invariant-lines : goal.invariant-lines
invariant-lines l = record {
  few : l.total ≤ l.before;
  most : l.before + length l.rest ≤ length l.fn.steps;
  same : l.total + length (counted_after l.before (pieces_of l.rest)) ≡ length (counted_lines l.fn.steps);
}

abbrev pub decreases-lines : goal.decreases-lines
decreases-lines l = length l.fn.steps - l.before
