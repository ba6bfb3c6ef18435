use Rattle.std.proofs.Common.{◌≡◌, ℕ, ◌<◌, ◌≤◌, [], length}
use Rattle.std.specs.Prelude.{if◌then◌else◌, slice_index_or}
use Rattle.gr_tick.specs.Runs.{AreRuns}
use Rattle.gr_tick.specs.Stored.{RunsGive, is_told}
use Rattle.gr_curio.specs.declared.values.Q3.TheVariants.{N}
use Rattle.gr_curio.specs.Values.{wanted_at}
use Rattle.gr_curio.specs.Wants.{runs_of, wants_of, spare_of}
use Rattle.gr_broker_relay.proofs.learning.quench.Given as goal

-- the pieces so far are taken out, the other children are as they were, and there is room for the rest
abbrev pub invariant-loop-i : goal.invariant-loop-i
invariant-loop-i l = record {
  many : length l.wants ≡ length l.fn.wants;
  canonical : (k : ℕ) → k < l.i → AreRuns N (wants_of (runs_of l.fn.wants) k);
  each : (k : ℕ) → k < l.i → RunsGive N (wants_of (runs_of l.wants) k) (λ t. if is_told (slice_index_or l.pieces k []) t then N else wanted_at (wants_of (runs_of l.fn.wants) k) t);
  left : (k : ℕ) → l.i ≤ k → wants_of (runs_of l.wants) k ≡ wants_of (runs_of l.fn.wants) k;
  room : (k : ℕ) → l.i ≤ k → k < length l.wants → length (slice_index_or l.pieces k []) ≤ spare_of l.wants k;
}
