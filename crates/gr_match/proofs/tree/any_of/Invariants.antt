use Rattle.std.proofs.Common.{◌≡◌, drop}
use Rattle.std.specs.List.{flat_map, list_any}
use Rattle.gr_match.specs.Needed.{pair_of}
use Rattle.gr_match.specs.Index.{trees, matches_at, places_for}
use Rattle.gr_match.proofs.tree.any_of.Given as goal

-- whether a place of the buckets left matches decides
abbrev pub invariant-loop-bucket : goal.invariant-loop-bucket
invariant-loop-bucket l =
    list_any (matches_at (trees l.filters) l.event) (flat_map (places_for (pair_of l.pair)) (drop l.bucket-index l.buckets)) ≡ list_any (matches_at (trees l.filters) l.event) (flat_map (places_for (pair_of l.pair)) l.buckets)
