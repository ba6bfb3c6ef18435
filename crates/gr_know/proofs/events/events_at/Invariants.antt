use Rattle.std.proofs.Common.{◌≡◌, take}
use Rattle.gr_know.specs.Values.{known_at}
use Rattle.gr_know.specs.Events.{events_at}
use Rattle.gr_know.proofs.events.events_at.Given as goal

-- the runs so far are counted
abbrev pub invariant-loop-i : goal.invariant-loop-i
invariant-loop-i l = l.count ≡ events_at (known_at l.stream.runs) (take l.i l.piece)
