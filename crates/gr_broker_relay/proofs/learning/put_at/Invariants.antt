use Rattle.std.proofs.Common.{◌≡◌, ℕ, ◌-◌, ◌≤◌, [], length, vec_len}
use Rattle.std.specs.Prelude.{slice_index_or}
use Rattle.gr_broker_relay.proofs.learning.put_at.Given as goal

-- only empty pieces are put before
abbrev pub invariant-blanks : goal.invariant-blanks
invariant-blanks l = record {
  few : length l.pieces.items ≤ l.i;
  same : (k : ℕ) → slice_index_or l.pieces.items k [] ≡ slice_index_or l.fn.pieces.items k [];
}

abbrev pub decreases-blanks : goal.decreases-blanks
decreases-blanks l = l.i - vec_len l.pieces
