use Rattle.std.proofs.Common.{◌≡◌, ◌++◌, length}
use Rattle.gr_match.specs.Index.{asked, row_at}
use Rattle.gr_match.proofs.tree.asked.Given as goal

-- the places so far, and those of the pairs left
abbrev pub invariant-pairs : goal.invariant-pairs
invariant-pairs l = l.places.items ++ asked (row_at l.rows) l.pairs ≡ l.rest ++ asked (row_at l.rows) l.event

abbrev pub decreases-pairs : goal.decreases-pairs
decreases-pairs l = length l.pairs
