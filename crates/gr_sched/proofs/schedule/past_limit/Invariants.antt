use Rattle.std.proofs.Common.{length, ◌≡◌, ◌+◌, ◌-◌, ◌≤◌}
use Rattle.std.specs.List.{slice_get}
use Rattle.gr_sched.specs.declared.step.TheConstants.{MAX_STEPS}
use Rattle.gr_sched.specs.Text.{pieces_of, counted_after, counted_lines}
use Rattle.gr_sched.proofs.schedule.past_limit.Given as goal

abbrev pub invariant-lines : goal.invariant-lines
invariant-lines l = record {
  few : l.seen ≤ MAX_STEPS;
  most : l.before + length l.rest ≤ length l.fn.steps;
  same : slice_get (counted_lines l.fn.steps) MAX_STEPS ≡ slice_get (counted_after l.before (pieces_of l.rest)) (MAX_STEPS - l.seen);
}

abbrev pub decreases-lines : goal.decreases-lines
decreases-lines l = length l.fn.steps - l.before
