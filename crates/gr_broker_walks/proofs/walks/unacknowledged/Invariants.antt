use Rattle.std.proofs.Common.{◌≡◌, ℕ, ◌≤◌, List, ◌∷◌, length, take, drop, cond}
use Rattle.gr_tick.specs.declared.run.Run.{Run}
use Rattle.gr_tick.specs.Stored.{EndBefore}
use Rattle.gr_know.specs.declared.values.K.{K}
use Rattle.gr_know.specs.declared.values.K.TheVariants.{Q}
use Rattle.gr_curio.specs.Values.{is_A, wanted_at}
use Rattle.gr_know.specs.Values.{known_at}
use Rattle.gr_curio.specs.Wants.{wants_of, runs_of}
use Rattle.gr_broker_walks.proofs.walks.unacknowledged.Given as goal

-- the piece has what is sent of the runs so far, and ends before the next run
abbrev pub invariant-loop-i : goal.invariant-loop-i
invariant-loop-i l = record {
  within : l.i ≤ length l.passed;
  values : (t : ℕ) → known_at l.sent t ≡ cond (is_A (wanted_at (wants_of (runs_of l.wants) l.child) t)) Q (known_at (take l.i l.passed) t);
  past : (s : Run K) (rest : List (Run K)) → drop l.i l.passed ≡ s ∷ rest → EndBefore l.sent s.first;
}
