use Rattle.std.proofs.Common.{length, ◌≤◌}
use Rattle.gr_sched.specs.declared.step.TheConstants.{MAX_STEPS}
use Rattle.gr_sched.specs.Plain.{Adds}
use Rattle.gr_sched.proofs.plain.push_lines.Given as goal

abbrev pub invariant-lines : goal.invariant-lines
invariant-lines g l = record {
  few : length l.fn.found ≤ MAX_STEPS → length l.found ≤ MAX_STEPS;
  adds : Adds (g.N.Names.naming l.names) l.fn.before l.fn.text l.fn.found l.count l.rest l.found;
}

abbrev pub decreases-lines : goal.decreases-lines
decreases-lines g l = length l.rest
