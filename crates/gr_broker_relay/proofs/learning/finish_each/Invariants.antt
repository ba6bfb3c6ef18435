use Rattle.std.proofs.Common.{◌≡◌, ℕ, ◌+◌, ◌-◌, ◌*◌, ◌≤◌, cond, length, take}
use Rattle.gr_know.specs.Values.{known_at}
use Rattle.gr_know.specs.declared.values.K.TheVariants.{F}
use Rattle.gr_curio.specs.Values.{wanted_at, is_A}
use Rattle.gr_broker_relay.proofs.learning.finish_each.Given as goal

-- the runs so far are finished, and there is room for the others
abbrev pub invariant-loop-i : goal.invariant-loop-i
invariant-loop-i l = record {
  room : 2 * (length l.done - l.i) ≤ l.know.spare;
  spare : l.fn.know.spare ≤ l.know.spare + 2 * l.i;
  values : (t : ℕ) → known_at l.know.runs t ≡ cond (is_A (wanted_at (take l.i l.done) t)) F (known_at l.fn.know.runs t);
}
