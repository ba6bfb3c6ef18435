use Rattle.std.proofs.Common.{◌≡◌, suc, ◌-◌, ◌≤◌, length, take}
use Rattle.gr_know.specs.Values.{known_at}
use Rattle.gr_know.specs.Events.{events_from}
use Rattle.gr_know.proofs.events.events_in.Given as goal

-- the runs so far are counted
abbrev pub invariant-loop-i : goal.invariant-loop-i
invariant-loop-i l = record {
  within : l.i ≤ length l.stream.runs;
  counted : l.count ≡ events_from (known_at (take l.i l.stream.runs)) l.first (suc l.last - l.first);
}
