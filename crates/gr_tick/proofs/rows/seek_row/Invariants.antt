use Rattle.std.proofs.Common.{◌≡◌, ◌≤◌, ◌-◌, List, ◌∷◌, length, take, drop}
use Rattle.gr_tick.specs.declared.run.Run.{Run}
use Rattle.gr_tick.specs.Stored.{EndBefore}
use Rattle.gr_tick.proofs.rows.seek_row.Given as goal

-- the runs before the lower place end before the tick, and the one at the upper place does not
abbrev pub invariant-loop-low : goal.invariant-loop-low
invariant-loop-low g l = record {
  ordered : l.low ≤ l.high;
  within : l.high ≤ length l.runs.items;
  front : EndBefore (take l.low l.runs.items) l.tick;
  here : (r : Run g.row.V.Denot) (rs : List (Run g.row.V.Denot)) → drop l.high l.runs.items ≡ r ∷ rs → l.tick ≤ r.last;
}

abbrev pub decreases-loop-low : goal.decreases-loop-low
decreases-loop-low g l = l.high - l.low
