use Rattle.std.proofs.Common.{◌≡◌, ℕ, ◌+◌, ◌≤◌, List, ◌∷◌, length, take, drop}
use Rattle.gr_tick.specs.declared.run.Run.{Run}
use Rattle.gr_tick.specs.Runs.{value_at}
use Rattle.gr_tick.specs.Stored.{AreTickRuns, EndBefore}
use Rattle.gr_tick.proofs.edits.join_past.Given as goal

-- the runs so far are joined, all ends before the next one, and there is room for the others
abbrev pub invariant-loop-i : goal.invariant-loop-i
invariant-loop-i g l =
    let least = g.V.Lattice.least in
    record {
      runs : AreTickRuns least l.runs.items;
      values : (t : ℕ) → value_at least l.runs.items t ≡ g.V.Lattice.join_of (value_at least l.fn.runs.items t) (value_at least (take l.i l.others.items) t);
      past : (s : Run g.row.V.Denot) (rest : List (Run g.row.V.Denot)) → drop l.i l.others.items ≡ s ∷ rest → EndBefore l.runs.items s.first;
      room : length l.others.items ≤ l.runs.spare + l.i;
      spare : l.fn.runs.spare ≤ l.runs.spare + l.i;
    }
