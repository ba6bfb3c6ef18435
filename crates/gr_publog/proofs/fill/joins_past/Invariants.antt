use Rattle.std.proofs.Common.{◌≡◌, ◌-◌, ◌≤◌, ◌++◌, length, take, drop}
use Rattle.gr_event.specs.Joins.{JoinsRise}
use Rattle.gr_publog.specs.Filled.{joins_upto, joins_past}
use Rattle.gr_publog.proofs.fill.joins_past.Given as goal

abbrev pub invariant-upto : goal.invariant-upto
invariant-upto l = record {
  within : l.i ≤ length l.joins;
  rise : JoinsRise 0 (drop l.i l.joins);
  before : take l.i l.joins ++ joins_upto l.tick (drop l.i l.joins) ≡ joins_upto l.tick l.joins;
  rest : joins_past l.tick (drop l.i l.joins) ≡ joins_past l.tick l.joins;
}

abbrev pub decreases-upto : goal.decreases-upto
decreases-upto l = length l.joins - l.i
