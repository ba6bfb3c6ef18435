use Rattle.std.proofs.Common.{length, ◌≡◌, ◌+◌, ◌≤◌}
use Rattle.gr_sched.specs.Text.{pieces_of}
use Rattle.gr_sched.proofs.text.line_count.Given as goal

abbrev pub invariant-lines : goal.invariant-lines
invariant-lines l = record {
  most : l.total + length l.rest ≤ length l.fn.text;
  same : l.total + length (pieces_of l.rest) ≡ length (pieces_of l.fn.text);
}

abbrev pub decreases-lines : goal.decreases-lines
decreases-lines l = length l.rest
