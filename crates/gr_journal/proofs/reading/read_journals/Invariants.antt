use Rattle.std.proofs.Common.{length, ◌≡◌, ◌+◌, ◌≤◌}
use Rattle.gr_journal.specs.Parts.{lines_of}
use Rattle.gr_journal.specs.Lines.{journals_from, journals_of}
use Rattle.gr_journal.proofs.reading.read_journals.Given as goal

-- what is left goes on with what was read
abbrev pub invariant-lines : goal.invariant-lines
invariant-lines l = record {
  most : l.number + length l.rest ≤ length l.fn.bytes;
  same : journals_from l.fn.topo (l.journals, l.open) l.number (lines_of l.rest) ≡ journals_of l.fn.topo l.fn.bytes;
}

abbrev pub decreases-lines : goal.decreases-lines
decreases-lines l = length l.rest
