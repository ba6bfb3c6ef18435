use Rattle.std.proofs.Common.{◌≡◌, take}
use Rattle.gr_tick.proofs.rows.copy_row.Given as goal

-- the runs so far are copied
abbrev pub invariant-loop-i : goal.invariant-loop-i
invariant-loop-i g l = l.copy.items ≡ take l.i l.runs.items
