use Rattle.std.proofs.Common.{◌≡◌, drop}
use Rattle.std.specs.List.{list_any}
use Rattle.gr_match.specs.Index.{trees, matches_at}
use Rattle.gr_match.proofs.tree.any_at.Given as goal

-- whether one of the places left matches decides
abbrev pub invariant-loop-place : goal.invariant-loop-place
invariant-loop-place l =
    list_any (matches_at (trees l.filters) l.event) (drop l.place-index l.places) ≡ list_any (matches_at (trees l.filters) l.event) l.places
