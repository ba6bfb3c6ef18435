use Rattle.std.proofs.Common.{◌≡◌, ℕ, ◌≤◌, length, take}
use Rattle.gr_know.specs.Values.{known_at, join_K}
use Rattle.gr_know.proofs.events.is_known.Given as goal

-- the runs so far add nothing
abbrev pub invariant-loop-i : goal.invariant-loop-i
invariant-loop-i l = record {
  within : l.i ≤ length l.piece;
  held : (t : ℕ) → join_K (known_at l.stream.runs t) (known_at (take l.i l.piece) t) ≡ known_at l.stream.runs t;
}
