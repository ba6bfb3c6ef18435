use Rattle.std.proofs.Common.{◌≡◌, ◌≤◌, ◌++◌, length, take, drop}
use Rattle.gr_match.specs.Needed.{pair_of}
use Rattle.gr_match.specs.Index.{put}
use Rattle.gr_match.proofs.bucket.put.Given as goal

-- none of the buckets so far is that of the pair
abbrev pub invariant-loop-i : goal.invariant-loop-i
invariant-loop-i l = record {
  upto : l.i ≤ length l.buckets.items;
  same : l.buckets.items ≡ l.initial.buckets.items;
  left : take l.i l.buckets.items ++ put (pair_of l.pair) l.place (drop l.i l.buckets.items) ≡ put (pair_of l.pair) l.place l.initial.buckets.items;
}
