use Rattle.std.proofs.Common.{◌≡◌, ℕ, ◌+◌, ◌≤◌, take, drop}
use Rattle.gr_tick.specs.Runs.{value_at}
use Rattle.gr_tick.specs.Stored.{AreTickRuns, needed}
use Rattle.gr_tick.proofs.edits.join_each.Given as goal

-- the runs so far are joined, and there is room for the others
abbrev pub invariant-loop-i : goal.invariant-loop-i
invariant-loop-i g l =
    let least = g.V.Lattice.least in
    record {
      runs : AreTickRuns least l.runs.items;
      values : (t : ℕ) → value_at least l.runs.items t ≡ g.V.Lattice.join_of (value_at least l.fn.runs.items t) (value_at least (take l.i l.others.items) t);
      room : needed l.runs.items (drop l.i l.others.items) ≤ l.runs.spare;
      spare : needed l.runs.items (drop l.i l.others.items) + l.fn.runs.spare ≤ l.runs.spare + needed l.fn.runs.items l.others.items;
    }
