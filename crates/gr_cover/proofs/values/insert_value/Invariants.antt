use Rattle.std.proofs.Common.{◌≡◌, ◌≤◌, ◌++◌, length, take, drop}
use Rattle.gr_cover.specs.Candidates.{value_cmp, inserted}
use Rattle.gr_cover.proofs.values.insert_value.Given as goal

-- the value's place is not among those passed
abbrev pub invariant-loop-i : goal.invariant-loop-i
invariant-loop-i l = record {
  kept : l.value ≡ l.fn.value;
  upto : l.i ≤ length l.values.items;
  same : l.values.items ≡ l.initial.values.items;
  left : take l.i l.values.items ++ inserted value_cmp l.fn.value (drop l.i l.values.items) ≡ inserted value_cmp l.fn.value l.values.items;
}
