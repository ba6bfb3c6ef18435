use Rattle.std.proofs.Common.{◌≡◌, ◌-◌, ◌≤◌, ◌++◌, length, drop}
use Rattle.gr_event.specs.Joins.{JoinsRise}
use Rattle.gr_publog.specs.Text.{blocks}
use Rattle.gr_publog.specs.Filled.{joins_below, joins_from, joined}
use Rattle.gr_publog.proofs.fill.put_joins.Given as goal

abbrev pub invariant-joins : goal.invariant-joins
invariant-joins l = record {
  within : l.i ≤ length l.joins;
  rise : JoinsRise 0 (drop l.i l.joins);
  text : l.bytes.items ++ blocks (joined (joins_below l.end (drop l.i l.joins))) ≡ l.fn.bytes.items ++ blocks (joined (joins_below l.end (drop l.fn.from l.joins)));
  rest : joins_from l.end (drop l.i l.joins) ≡ joins_from l.end (drop l.fn.from l.joins);
}

abbrev pub decreases-joins : goal.decreases-joins
decreases-joins l = length l.joins - l.i
