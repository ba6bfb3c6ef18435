use Rattle.std.proofs.Common.{◌≡◌, ℕ, ◌<◌, ◌≤◌, [], length}
use Rattle.std.specs.Prelude.{slice_index_or}
use Rattle.gr_curio.specs.Wants.{runs_of, spare_of}
use Rattle.gr_broker_relay.proofs.learning.reserve_wants.Given as goal

-- the children so far have their room
abbrev pub invariant-loop-i : goal.invariant-loop-i
invariant-loop-i l = record {
  runs : runs_of l.wants ≡ runs_of l.fn.wants;
  many : length l.wants ≡ length l.fn.wants;
  room : (k : ℕ) → k < l.i → length (slice_index_or l.pieces k []) ≤ spare_of l.wants k;
}
