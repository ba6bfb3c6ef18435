use Rattle.std.proofs.Common.{◌≡◌, ◌-◌, ◌≤◌, ◌++◌, length, drop}
use Rattle.gr_publog.specs.Text.{joins_bytes}
use Rattle.gr_publog.proofs.fill.put_base_joins.Given as goal

abbrev pub invariant-joins : goal.invariant-joins
invariant-joins l = record {
  within : l.i ≤ length l.joins;
  text : l.bytes.items ++ joins_bytes (drop l.i l.joins) ≡ l.fn.bytes.items ++ joins_bytes l.joins;
}

abbrev pub decreases-joins : goal.decreases-joins
decreases-joins l = length l.joins - l.i
