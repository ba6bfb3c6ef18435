use Rattle.std.proofs.Common.{◌≡◌, ℕ, ◌-◌, vec_len}
use Rattle.gr_match.specs.Index.{row_at}
use Rattle.gr_match.proofs.rows.make_rows.Given as goal

abbrev pub invariant-blanks : goal.invariant-blanks
invariant-blanks l = (i : ℕ) → row_at l.rows.items i ≡ row_at l.fn.rows.items i

abbrev pub decreases-blanks : goal.decreases-blanks
decreases-blanks l = 251 - vec_len l.rows
