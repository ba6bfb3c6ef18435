use Rattle.std.proofs.Common.{length, ◌≡◌, ◌+◌, ◌-◌, ◌≤◌}
use Rattle.std.specs.List.{AllByRecursion}
use Rattle.gr_sched.specs.declared.step.TheConstants.{MAX_STEPS}
use Rattle.gr_sched.specs.Text.{pieces_of, counted_after, counted_lines}
use Rattle.gr_sched.specs.Ranges.{IsInLimits}
use Rattle.gr_sched.specs.Grammar.{lines_of}
use Rattle.gr_sched.specs.Plain.{behind}
use Rattle.gr_sched.proofs.schedule.read_lines.Given as goal

abbrev pub invariant-lines : goal.invariant-lines
invariant-lines g l = record {
  few : length l.found ≤ MAX_STEPS;
  all : length l.found + length (counted_after l.before (pieces_of l.rest)) ≡ length (counted_lines l.fn.steps);
  limits : AllByRecursion (λ line. IsInLimits line.step) l.found;
  most : l.before + length l.rest ≤ length l.fn.steps;
  same : lines_of (g.N.Names.naming l.names) (counted_lines l.fn.steps) ≡ behind l.found (lines_of (g.N.Names.naming l.names) (counted_after l.before (pieces_of l.rest)));
}

abbrev pub decreases-lines : goal.decreases-lines
decreases-lines g l = length l.fn.steps - l.before
