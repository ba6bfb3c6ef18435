use Rattle.std.proofs.Common.{◌≡◌, ◌≤◌, ◌+◌, length, []}
use Rattle.gr_publog.specs.State.{held_by}
use Rattle.gr_publog.specs.Text.{records_in}
use Rattle.gr_publog.proofs.Walking.{IsReading}
use Rattle.gr_publog.proofs.read.records_in.Given as goal

abbrev pub invariant-gates : goal.invariant-gates
invariant-gates l = record {
  within : length l.rest ≤ l.total;
  late : l.footing.late ≡ l.fn.begun.late;
  reading : IsReading l.total (held_by l.footing l.entries.items) l.rest (records_in (l.total + 1) l.total (held_by l.fn.begun []) l.fn.bytes);
}

abbrev pub decreases-gates : goal.decreases-gates
decreases-gates l = length l.rest
