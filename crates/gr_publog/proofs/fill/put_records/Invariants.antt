use Rattle.std.proofs.Common.{◌≡◌, ◌-◌, ◌≤◌, ◌++◌, length, drop}
use Rattle.gr_event.specs.Joins.{JoinsRise}
use Rattle.gr_publog.specs.State.{Apart}
use Rattle.gr_publog.specs.Text.{blocks}
use Rattle.gr_publog.specs.Filled.{in_order, last_event}
use Rattle.gr_publog.proofs.fill.put_records.Given as goal

abbrev pub invariant-entries : goal.invariant-entries
invariant-entries l = record {
  within : l.i ≤ length l.entries.items;
  past : l.next ≤ length l.joins;
  rise : JoinsRise 0 (drop l.next l.joins);
  apart : Apart (drop l.i l.entries.items) (drop l.next l.joins);
  text : l.bytes.items ++ blocks (in_order (drop l.i l.entries.items) (drop l.next l.joins)) ≡ l.fn.bytes.items ++ blocks (in_order (drop l.fn.from l.entries.items) (drop l.fn.past l.joins));
  top : last_event l.top (drop l.i l.entries.items) ≡ last_event l.fn.cut (drop l.fn.from l.entries.items);
}

abbrev pub decreases-entries : goal.decreases-entries
decreases-entries l = length l.entries.items - l.i
