use Rattle.std.proofs.Common.{◌≡◌, take}
use Rattle.gr_tick.specs.Stored.{needed}
use Rattle.gr_tick.proofs.edits.room_for.Given as goal

-- the room for the runs so far
abbrev pub invariant-loop-i : goal.invariant-loop-i
invariant-loop-i g l = l.room ≡ needed l.runs.items (take l.i l.others.items)
