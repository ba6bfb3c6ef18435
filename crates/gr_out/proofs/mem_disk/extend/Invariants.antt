use Rattle.std.proofs.Common.{◌≡◌, ℕ, ◌-◌, vec_len}
use Rattle.gr_out.specs.Lane.{lane_at}
use Rattle.gr_out.proofs.mem_disk.extend.Given as goal

abbrev pub invariant-blanks : goal.invariant-blanks
invariant-blanks l = (n : ℕ) → lane_at l.lanes.items n ≡ lane_at l.fn.lanes.items n

abbrev pub decreases-blanks : goal.decreases-blanks
decreases-blanks l = l.count - vec_len l.lanes
