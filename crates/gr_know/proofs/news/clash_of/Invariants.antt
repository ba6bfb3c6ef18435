use Rattle.std.proofs.Common.{◌≡◌, ℕ, ◌≤◌, length, take, drop, List, ◌∷◌, true, false}
use Rattle.gr_tick.specs.declared.run.Run.{Run}
use Rattle.gr_know.specs.declared.values.K.{K}
use Rattle.gr_tick.specs.Runs.{is_in}
use Rattle.gr_know.specs.Values.{known_at, clash_K}
use Rattle.gr_know.proofs.news.clash_of.Given as goal

-- none of the runs so far clashes
abbrev pub invariant-loop-i : goal.invariant-loop-i
invariant-loop-i l = record {
  within : l.i ≤ length l.stream.runs;
  here : (r : Run K) (rs : List (Run K)) → drop l.i l.stream.runs ≡ r ∷ rs → l.run.first ≤ r.last;
  none : (t : ℕ) → is_in t l.run ≡ true → clash_K (known_at (take l.i l.stream.runs) t) l.run.value ≡ false;
}
