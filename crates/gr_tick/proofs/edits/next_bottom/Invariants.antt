use Rattle.std.proofs.Common.{◌≡◌, ◌≢◌, ℕ, ◌+◌, ◌^◌, ◌<◌, ◌≤◌, take, length}
use Rattle.gr_tick.specs.Runs.{value_at}
use Rattle.gr_tick.proofs.edits.next_bottom.Given as goal

-- no tick so far has the least value, and none of the runs so far has the next one
abbrev pub invariant-loop-i : goal.invariant-loop-i
invariant-loop-i g l =
    let least = g.V.Lattice.least in
    record {
      upto : l.i ≤ length l.runs.items;
      forward : l.tick ≤ l.next;
      inside : l.next ≤ 2 ^ 62 + 1;
      past : value_at least (take l.i l.runs.items) l.next ≡ least;
      least : (t : ℕ) → l.tick ≤ t → t < l.next → value_at least l.runs.items t ≢ least;
    }
