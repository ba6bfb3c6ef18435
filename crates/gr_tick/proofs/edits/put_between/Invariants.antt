use Rattle.std.proofs.Common.{◌≡◌, ◌+◌, ◌-◌, ◌<◌, ◌≤◌, ◌++◌, take, drop}
use Rattle.gr_tick.proofs.edits.put_between.Given as goal

-- of the runs to be replaced, those before the next one are removed but for one
abbrev pub invariant-loop-next : goal.invariant-loop-next
invariant-loop-next g l = record {
  forward : l.from < l.next;
  within : l.next ≤ l.upto;
  items : l.runs.items ≡ take l.from l.fn.runs.items ++ drop (l.next - 1) l.fn.runs.items;
  spare : l.runs.spare + (l.from + 1) ≡ l.fn.runs.spare + l.next;
}

abbrev pub decreases-loop-next : goal.decreases-loop-next
decreases-loop-next g l = l.upto - l.next
