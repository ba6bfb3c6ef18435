use Rattle.std.proofs.Common.{◌≡◌, ℕ, ◌≤◌, List, ◌∷◌, length, take, drop}
use Rattle.gr_tick.specs.declared.run.Run.{Run}
use Rattle.gr_tick.specs.Stored.{EndBefore}
use Rattle.gr_curio.specs.declared.values.Q3.{Q3}
use Rattle.gr_curio.specs.Values.{wanted_at}
use Rattle.gr_know.specs.Values.{known_at}
use Rattle.gr_curio.specs.Wants.{wants_of, runs_of}
use Rattle.gr_broker_walks.specs.Told.{said_at}
use Rattle.gr_broker_walks.proofs.walks.said_of.Given as goal

-- the piece has what is told of the runs so far, and ends before the next run
abbrev pub invariant-loop-i : goal.invariant-loop-i
invariant-loop-i l = record {
  within : l.i ≤ length l.asked;
  values : (t : ℕ) → known_at l.piece t ≡ said_at (known_at l.know.runs t) (wanted_at (wants_of (runs_of l.wants) l.child) t) (wanted_at (take l.i l.asked) t);
  past : (s : Run Q3) (rest : List (Run Q3)) → drop l.i l.asked ≡ s ∷ rest → EndBefore l.piece s.first;
}
