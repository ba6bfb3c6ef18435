use Rattle.std.proofs.Common.{◌≡◌, ◌≤◌, ◌-◌, length, drop}
use Rattle.gr_audit.specs.Links.{with_offers}
use Rattle.gr_audit.proofs.joint.offer.Given as goal

abbrev pub invariant-marks : goal.invariant-marks
invariant-marks l = record {
  within : l.place ≤ length l.fn.marks;
  offered : with_offers l.offered.items (drop l.place l.fn.marks) ≡ with_offers l.fn.offered.items (drop l.fn.from l.fn.marks);
  flags : length l.offered.items ≡ length l.fn.offered.items;
}

abbrev pub decreases-marks : goal.decreases-marks
decreases-marks l = length l.fn.marks - l.place
