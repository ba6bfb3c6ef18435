use Rattle.std.proofs.Common.{◌≡◌, ℕ, ◌≤◌, List, ◌∷◌, length, take, drop, cond, not, ◌&&◌}
use Rattle.gr_tick.specs.declared.run.Run.{Run}
use Rattle.gr_tick.specs.Stored.{EndBefore}
use Rattle.gr_know.specs.declared.values.K.{K}
use Rattle.gr_curio.specs.declared.values.Q3.TheVariants.{N, C}
use Rattle.gr_curio.specs.Values.{is_C, wanted_at}
use Rattle.gr_know.specs.Values.{is_Q, known_at}
use Rattle.gr_curio.specs.Wants.{wants_of, runs_of}
use Rattle.gr_broker_walks.proofs.walks.quenched.Given as goal

-- the piece has what is answered of the runs so far, and ends before the next run
abbrev pub invariant-loop-i : goal.invariant-loop-i
invariant-loop-i l = record {
  within : l.i ≤ length l.sent;
  values : (t : ℕ) → wanted_at l.quenched t ≡ cond (not (is_Q (known_at (take l.i l.sent) t)) && is_C (wanted_at (wants_of (runs_of l.wants) l.child) t)) C N;
  past : (s : Run K) (rest : List (Run K)) → drop l.i l.sent ≡ s ∷ rest → EndBefore l.quenched s.first;
}
