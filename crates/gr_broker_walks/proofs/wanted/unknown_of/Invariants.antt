use Rattle.std.proofs.Common.{◌≡◌, ℕ, ◌≤◌, List, ◌∷◌, length, take, drop, cond, ◌&&◌}
use Rattle.gr_tick.specs.declared.run.Run.{Run}
use Rattle.gr_tick.specs.Stored.{EndBefore}
use Rattle.gr_curio.specs.declared.values.Q3.{Q3}
use Rattle.gr_curio.specs.declared.values.Q3.TheVariants.{N, C}
use Rattle.gr_curio.specs.Values.{is_C, wanted_at}
use Rattle.gr_know.specs.Values.{is_Q, known_at}
use Rattle.gr_broker_walks.proofs.wanted.unknown_of.Given as goal

-- the piece has what is unknown of the runs so far, and ends before the next run
abbrev pub invariant-loop-i : goal.invariant-loop-i
invariant-loop-i l = record {
  within : l.i ≤ length l.wanted;
  values : (t : ℕ) → wanted_at l.piece t ≡ cond (is_C (wanted_at (take l.i l.wanted) t) && is_Q (known_at l.know.runs t)) C N;
  past : (s : Run Q3) (rest : List (Run Q3)) → drop l.i l.wanted ≡ s ∷ rest → EndBefore l.piece s.first;
}
