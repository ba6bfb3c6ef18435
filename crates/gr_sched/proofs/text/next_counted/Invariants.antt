use Rattle.std.proofs.Common.{length, ◌≡◌, ◌+◌, ◌≤◌}
use Rattle.gr_sched.specs.Text.{pieces_of, counted_after}
use Rattle.gr_sched.proofs.text.next_counted.Given as goal

abbrev pub invariant-lines : goal.invariant-lines
invariant-lines l = record {
  least : l.before ≤ l.number;
  most : l.number + length l.rest ≤ l.before + length l.fn.text;
  same : counted_after l.before (pieces_of l.fn.text) ≡ counted_after l.number (pieces_of l.rest);
}

abbrev pub decreases-lines : goal.decreases-lines
decreases-lines l = length l.rest
