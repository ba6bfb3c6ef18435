use Rattle.std.proofs.Common.{◌≡◌, ℕ, ◌≤◌, length, take, drop, List, ◌∷◌}
use Rattle.gr_tick.specs.declared.run.Run.{Run}
use Rattle.gr_tick.specs.Stored.{EndBefore}
use Rattle.gr_know.specs.declared.values.K.{K}
use Rattle.gr_know.specs.Values.{known_at, new_K}
use Rattle.gr_know.proofs.news.fresh_piece.Given as goal

-- what is new of the runs so far is put, and ends before the next run
abbrev pub invariant-loop-i : goal.invariant-loop-i
invariant-loop-i l = record {
  within : l.i ≤ length l.piece;
  values : (t : ℕ) → known_at l.fresh t ≡ new_K (known_at l.stream.runs t) (known_at (take l.i l.piece) t);
  past : (r : Run K) (rs : List (Run K)) → drop l.i l.piece ≡ r ∷ rs → EndBefore l.fresh r.first;
}
