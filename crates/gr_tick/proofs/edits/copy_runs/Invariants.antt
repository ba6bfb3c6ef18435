use Rattle.std.proofs.Common.{◌≡◌, ◌+◌, ◌≤◌, take}
use Rattle.gr_tick.proofs.edits.copy_runs.Given as goal

-- the runs so far are copied, and there is room for the others and for those that are to follow
abbrev pub invariant-loop-i : goal.invariant-loop-i
invariant-loop-i g l = record {
  items : l.copy.items ≡ take l.i l.runs.items;
  spare : l.count + l.more ≤ l.i + l.copy.spare;
}
