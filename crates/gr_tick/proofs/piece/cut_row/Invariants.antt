use Rattle.std.proofs.Common.{◌≡◌, ℕ, ◌≤◌, List, ◌∷◌, cond, length, take, drop}
use Rattle.gr_tick.specs.declared.run.Run.{Run}
use Rattle.gr_tick.specs.Runs.{value_at}
use Rattle.gr_tick.specs.Stored.{EndBefore, within}
use Rattle.gr_tick.proofs.piece.cut_row.Given as goal

-- the piece has what the runs so far have in the range, and ends before the next run
abbrev pub invariant-loop-i : goal.invariant-loop-i
invariant-loop-i g l =
    let least = g.V.Lattice.least in
    record {
      upto : l.i ≤ length l.runs.items;
      values : (t : ℕ) → value_at least l.piece t ≡ cond (within l.first l.last t) (value_at least (take l.i l.runs.items) t) least;
      past : (s : Run g.row.V.Denot) (rest : List (Run g.row.V.Denot)) → drop l.i l.runs.items ≡ s ∷ rest → EndBefore l.piece s.first;
    }
