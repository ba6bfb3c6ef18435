use Rattle.std.proofs.Common.{◌≡◌, ◌≤◌, length, drop}
use Rattle.gr_audit.specs.Links.{next_line_of, rests_of}
use Rattle.gr_audit.proofs.joint.least_line.Given as goal

abbrev pub invariant-journals : goal.invariant-journals
invariant-journals l = record {
  within : l.journal ≤ length l.fn.journals;
  least : l.least ≡ next_line_of (rests_of (drop l.journal l.fn.journals) (drop l.journal l.fn.places));
}

abbrev pub decreases-journals : goal.decreases-journals
decreases-journals l = l.journal
