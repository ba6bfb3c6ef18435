use Rattle.std.proofs.Common.{◌≡◌, length}
use Rattle.gr_audit.specs.Links.{rests_of}
use Rattle.gr_audit.proofs.Numbered.{Reaches}
use Rattle.gr_audit.proofs.Turns.{room}
use Rattle.gr_audit.proofs.joint.line_that_stays.Given as goal

abbrev pub invariant-turns : goal.invariant-turns
invariant-turns l = record {
  count : length l.places.items ≡ length l.fn.journals;
  flags : length l.offered.items ≡ length l.fn.keys;
  reaches : Reaches l.fn.keys l.fn.journals l.offered.items (rests_of l.fn.journals l.places.items);
}

abbrev pub decreases-turns : goal.decreases-turns
decreases-turns l = room (rests_of l.fn.journals l.places.items)
