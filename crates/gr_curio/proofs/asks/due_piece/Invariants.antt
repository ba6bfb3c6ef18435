use Rattle.std.proofs.Common.{◌≡◌, ℕ, ◌≤◌, List, ◌∷◌, length, take, drop}
use Rattle.gr_tick.specs.declared.run.Run.{Run}
use Rattle.gr_tick.specs.Stored.{EndBefore}
use Rattle.gr_curio.specs.Values.{asked_at, wanted_at}
use Rattle.gr_curio.specs.Due.{due_of}
use Rattle.gr_curio.specs.declared.values.Q3.{Q3}
use Rattle.gr_curio.proofs.asks.due_piece.Given as goal

-- the piece has what is due of the runs so far, and ends before the next run
abbrev pub invariant-loop-i : goal.invariant-loop-i
invariant-loop-i l = record {
  upto : l.i ≤ length l.wanted;
  values : (t : ℕ) → wanted_at l.due t ≡ due_of (asked_at l.moments.runs t) (wanted_at (take l.i l.wanted) t) l.now l.retry;
  past : (s : Run Q3) (rest : List (Run Q3)) → drop l.i l.wanted ≡ s ∷ rest → EndBefore l.due s.first;
}
