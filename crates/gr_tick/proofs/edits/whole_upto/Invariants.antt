use Rattle.std.proofs.Common.{◌≡◌, ℕ, ◌-◌, ◌≤◌, ◌++◌, false, length, take, drop}
use Rattle.gr_tick.specs.Runs.{value_at}
use Rattle.gr_tick.specs.Stored.{within}
use Rattle.gr_tick.proofs.edits.whole_upto.Given as goal

-- without the runs so far, the ticks out of the range have the values that they had
abbrev pub invariant-loop-upto : goal.invariant-loop-upto
invariant-loop-upto g l =
    let least = g.V.Lattice.least in
    record {
      forward : l.from ≤ l.upto;
      inside : l.upto ≤ length l.runs.items;
      values : (t : ℕ) → within l.first l.last t ≡ false → value_at least (take l.from l.runs.items ++ drop l.upto l.runs.items) t ≡ value_at least l.runs.items t;
    }

abbrev pub decreases-loop-upto : goal.decreases-loop-upto
decreases-loop-upto g l = l.count - l.upto
