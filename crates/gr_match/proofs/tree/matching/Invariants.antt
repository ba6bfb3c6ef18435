use Rattle.std.proofs.Common.{◌≡◌, ◌++◌, drop}
use Rattle.std.specs.List.{filter}
use Rattle.gr_match.specs.Index.{trees, matches_at}
use Rattle.gr_match.proofs.tree.matching.Given as goal

-- what was found, and what matches of the places left
abbrev pub invariant-loop-place : goal.invariant-loop-place
invariant-loop-place l =
    l.found ++ filter (matches_at (trees l.filters) l.event) (drop l.place-index l.places) ≡ filter (matches_at (trees l.filters) l.event) l.places
