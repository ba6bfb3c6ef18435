use Rattle.std.proofs.Common.{◌≡◌, ◌≤◌, ◌-◌, length, drop}
use Rattle.gr_audit.specs.Links.{ready_from, rests_of}
use Rattle.gr_audit.proofs.joint.first_ready.Given as goal

abbrev pub invariant-journals : goal.invariant-journals
invariant-journals l = record {
  within : l.journal ≤ length l.fn.journals;
  first : ready_from l.journal l.fn.offered (rests_of (drop l.journal l.fn.journals) (drop l.journal l.fn.places))
      ≡ ready_from 0 l.fn.offered (rests_of l.fn.journals l.fn.places);
}

abbrev pub decreases-journals : goal.decreases-journals
decreases-journals l = length l.fn.journals - l.journal
