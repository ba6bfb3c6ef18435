use Rattle.std.proofs.Common.{◌≡◌, ℕ, ◌≤◌, ◌&&◌, nat_le, cond, List, ◌∷◌, length, take, drop}
use Rattle.gr_tick.specs.declared.run.Run.{Run}
use Rattle.gr_tick.specs.Stored.{EndBefore}
use Rattle.gr_curio.specs.Values.{wanted_at, is_A}
use Rattle.gr_curio.specs.Wants.{runs_of, all_A}
use Rattle.gr_curio.specs.declared.values.Q3.{Q3}
use Rattle.gr_curio.specs.declared.values.Q3.TheVariants.{N, A}
use Rattle.gr_curio.proofs.children.completed_by.Given as goal

-- the piece has what is completed of the runs so far, and ends before the next run
abbrev pub invariant-loop-i : goal.invariant-loop-i
invariant-loop-i l = record {
  within : l.i ≤ length l.piece;
  values : (t : ℕ) → wanted_at l.done t ≡ cond (is_A (wanted_at (take l.i l.piece) t) && nat_le t l.upto && (all_A (runs_of l.before) t && all_A (runs_of l.after) t)) A N;
  past : (s : Run Q3) (rest : List (Run Q3)) → drop l.i l.piece ≡ s ∷ rest → EndBefore l.done s.first;
}
