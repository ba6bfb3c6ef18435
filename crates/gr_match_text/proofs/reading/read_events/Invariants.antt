use Rattle.std.proofs.Common.{length, [], ◌≡◌, ◌+◌, ◌-◌, ◌≤◌}
use Rattle.gr_sched.specs.Text.{pieces_of, counted_after}
use Rattle.gr_match_text.specs.Reading.{events_of}
use Rattle.gr_match_text.proofs.reading.read_events.Given as goal

-- what is left goes on with the events so far
abbrev pub invariant-lines : goal.invariant-lines
invariant-lines l = record {
  most : l.before + length l.rest ≤ l.fn.above + length l.fn.back;
  same : events_of l.events (counted_after l.before (pieces_of l.rest)) ≡ events_of [] (counted_after l.fn.above (pieces_of l.fn.back));
}

abbrev pub decreases-lines : goal.decreases-lines
decreases-lines l = l.fn.above + length l.fn.back - l.before
