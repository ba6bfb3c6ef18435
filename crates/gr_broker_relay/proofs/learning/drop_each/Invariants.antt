use Rattle.std.proofs.Common.{◌≡◌, ℕ, ◌+◌, ◌-◌, ◌≤◌, cond, length, take}
use Rattle.gr_curio.specs.declared.asks.Moment.TheVariants.{Never}
use Rattle.gr_curio.specs.Values.{wanted_at, asked_at, is_A}
use Rattle.gr_broker_relay.proofs.learning.drop_each.Given as goal

-- the moments of the runs so far are dropped, and there is room for the others
abbrev pub invariant-loop-i : goal.invariant-loop-i
invariant-loop-i l = record {
  room : length l.done - l.i ≤ l.asks.spare;
  spare : l.fn.asks.spare ≤ l.asks.spare + l.i;
  values : (t : ℕ) → asked_at l.asks.runs t ≡ cond (is_A (wanted_at (take l.i l.done) t)) Never (asked_at l.fn.asks.runs t);
}
