use Rattle.std.proofs.Common.{◌≤◌, length, take}
use Rattle.gr_know.proofs.DataBelow.{Dataless}
use Rattle.gr_know.proofs.forgetting.first_data.Given as goal

-- none of the runs so far has an event
abbrev pub invariant-loop-i : goal.invariant-loop-i
invariant-loop-i l = record {
  within : l.i ≤ length l.stream.runs;
  none : Dataless (take l.i l.stream.runs);
}
