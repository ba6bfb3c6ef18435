use Rattle.std.proofs.Common.{◌≡◌, ℕ, ◌+◌, ◌-◌, ◌*◌, ◌≤◌, cond, length, take}
use Rattle.gr_tick.specs.Runs.{value_at}
use Rattle.gr_curio.specs.Values.{wanted_at, is_C}
use Rattle.gr_curio.proofs.mark.mark_ready.Given as goal

-- the runs so far are marked, and there is room for the others
abbrev pub invariant-loop-i : goal.invariant-loop-i
invariant-loop-i g l = record {
  room : (length l.piece - l.i) * 2 ≤ l.stream.spare;
  spare : l.fn.stream.spare ≤ l.stream.spare + l.i * 2;
  values : (t : ℕ) → value_at g.V.Lattice.least l.stream.runs t ≡ cond (is_C (wanted_at (take l.i l.piece) t)) l.value (value_at g.V.Lattice.least l.fn.stream.runs t);
}
