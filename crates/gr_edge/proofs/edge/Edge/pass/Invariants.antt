use Rattle.std.proofs.Common.{◌≡◌, ℕ, ◌≤◌, List, ◌∷◌, length, take, drop}
use Rattle.gr_tick.specs.declared.run.Run.{Run}
use Rattle.gr_tick.specs.Runs.{value_at}
use Rattle.gr_tick.specs.Stored.{EndBefore}
use Rattle.gr_know.specs.declared.values.K.{K}
use Rattle.gr_know.specs.declared.values.K.TheVariants.{Q}
use Rattle.gr_edge.specs.Pass.{pass}
use Rattle.gr_edge.proofs.edge.Edge.pass.Given as goal

-- what passes of the runs so far has passed, and ends before the next run
abbrev pub invariant-loop-i : goal.invariant-loop-i
invariant-loop-i l = record {
  upto : l.i ≤ length l.piece;
  values : (t : ℕ) → value_at Q l.passed t ≡ pass l.self l.joins t (value_at Q (take l.i l.piece) t);
  past : (s : Run K) (rest : List (Run K)) → drop l.i l.piece ≡ s ∷ rest → EndBefore l.passed s.first;
}
