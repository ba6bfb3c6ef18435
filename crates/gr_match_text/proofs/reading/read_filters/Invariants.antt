use Rattle.std.proofs.Common.{length, [], ◌≡◌, ◌+◌, ◌-◌, ◌≤◌}
use Rattle.gr_sched.specs.Text.{pieces_of, counted_after, counted_lines}
use Rattle.gr_match_text.specs.Reading.{filters_of}
use Rattle.gr_match_text.proofs.reading.read_filters.Given as goal

-- what is left goes on with the filters so far
abbrev pub invariant-lines : goal.invariant-lines
invariant-lines l = record {
  most : l.before + length l.rest ≤ length l.fn.front;
  same : filters_of l.filters (counted_after l.before (pieces_of l.rest)) ≡ filters_of [] (counted_lines l.fn.front);
}

abbrev pub decreases-lines : goal.decreases-lines
decreases-lines l = length l.fn.front - l.before
