use Rattle.std.proofs.Common.{◌≡◌, ℕ, ◌≤◌, length, take, false}
use Rattle.gr_know.specs.Values.{known_at, clash_K}
use Rattle.gr_know.proofs.news.find_clash.Given as goal

-- none of the runs so far clashes
abbrev pub invariant-loop-i : goal.invariant-loop-i
invariant-loop-i l = record {
  within : l.i ≤ length l.piece;
  none : (t : ℕ) → clash_K (known_at l.stream.runs t) (known_at (take l.i l.piece) t) ≡ false;
}
