use Rattle.std.proofs.Common.{◌≡◌, ℕ, ◌+◌, ◌≤◌, cond, take}
use Rattle.gr_tick.specs.Runs.{value_at}
use Rattle.gr_tick.specs.Stored.{AreTickRuns, is_told}
use Rattle.gr_tick.proofs.edits.lower_each.Given as goal

-- the runs so far are taken out, each with at most one cut
abbrev pub invariant-loop-i : goal.invariant-loop-i
invariant-loop-i g l =
    let least = g.V.Lattice.least in
    record {
      runs : AreTickRuns least l.runs.items;
      values : (t : ℕ) → value_at least l.runs.items t ≡ cond (is_told (take l.i l.others.items) t) least (value_at least l.fn.runs.items t);
      spare : l.fn.runs.spare ≤ l.runs.spare + l.i;
    }
