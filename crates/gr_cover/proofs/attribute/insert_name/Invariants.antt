use Rattle.std.proofs.Common.{◌≡◌, ◌≤◌, ◌++◌, length, take, drop}
use Rattle.std.specs.Ordering.{nat_cmp}
use Rattle.std.specs.Cmp.Lexicographic.{slice_cmp}
use Rattle.gr_cover.specs.Candidates.{inserted}
use Rattle.gr_cover.proofs.attribute.insert_name.Given as goal

-- the name's place is not among those passed
abbrev pub invariant-loop-i : goal.invariant-loop-i
invariant-loop-i l = record {
  kept : l.name ≡ l.fn.name;
  upto : l.i ≤ length l.names.items;
  same : l.names.items ≡ l.initial.names.items;
  left : take l.i l.names.items ++ inserted (slice_cmp nat_cmp) l.fn.name (drop l.i l.names.items) ≡ inserted (slice_cmp nat_cmp) l.fn.name l.names.items;
}
