use Rattle.std.proofs.Common.{◌≡◌, ◌≤◌, ◌-◌, length, drop}
use Rattle.gr_audit.specs.Links.{behind_offers}
use Rattle.gr_audit.proofs.joint.next_arrival.Given as goal

abbrev pub invariant-marks : goal.invariant-marks
invariant-marks l = record {
  within : l.place ≤ length l.fn.marks;
  rest : behind_offers (drop l.place l.fn.marks) ≡ behind_offers (drop l.fn.from l.fn.marks);
}

abbrev pub decreases-marks : goal.decreases-marks
decreases-marks l = length l.fn.marks - l.place
