use Rattle.std.proofs.Common.{◌≡◌, length}
use Rattle.std.specs.List.{list_any}
use Rattle.gr_match.specs.Index.{trees, matches_at, asked, row_at}
use Rattle.gr_match.proofs.tree.any_asked.Given as goal

-- whether a place of the pairs left matches decides
abbrev pub invariant-pairs : goal.invariant-pairs
invariant-pairs l =
    list_any (matches_at (trees l.filters) l.event) (asked (row_at l.rows) l.pairs) ≡ list_any (matches_at (trees l.filters) l.event) (asked (row_at l.rows) l.event)

abbrev pub decreases-pairs : goal.decreases-pairs
decreases-pairs l = length l.pairs
