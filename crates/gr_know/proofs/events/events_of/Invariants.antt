use Rattle.std.proofs.Common.{◌≡◌, take}
use Rattle.gr_know.specs.Forget.{data_count}
use Rattle.gr_know.proofs.events.events_of.Given as goal

-- the runs so far are counted
abbrev pub invariant-loop-i : goal.invariant-loop-i
invariant-loop-i l = l.count ≡ data_count (take l.i l.piece)
