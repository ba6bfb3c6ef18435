use Rattle.std.proofs.Common.{◌≡◌, ◌++◌, drop}
use Rattle.std.specs.List.{flat_map}
use Rattle.gr_match.specs.Needed.{pair_of}
use Rattle.gr_match.specs.Index.{places_for}
use Rattle.gr_match.proofs.tree.add_places.Given as goal

-- the places so far, and those of the buckets left
abbrev pub invariant-loop-bucket : goal.invariant-loop-bucket
invariant-loop-bucket l =
    l.places.items ++ flat_map (places_for (pair_of l.pair)) (drop l.bucket-index l.buckets) ≡ l.initial.places.items ++ flat_map (places_for (pair_of l.pair)) l.buckets
