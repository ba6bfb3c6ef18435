-- The place stands at `place`, and the blocks before it are full still.
use Rattle.std.proofs.Common.{◌≡◌, ℕ, ◌+◌, ◌<◌, ◌≤◌, length, get_or}
use Rattle.gr_gap.specs.Blocks.{held, Rearranged}
use Rattle.gr_gap.proofs.places.bring_back.Given as goal

abbrev pub invariant-loop-place : goal.invariant-loop-place
invariant-loop-place g l = record {
  row : Rearranged 512 l.fn.blocks.items l.starts.items l.blocks.items;
  starts : length l.starts.items ≡ length l.fn.starts.items;
  begins : get_or l.starts.items l.fn.to 0 ≡ get_or l.fn.starts.items l.fn.to 0;
  low : l.fn.to ≤ l.place;
  high : l.place ≤ l.fn.from;
  full : (k : ℕ) → l.fn.to ≤ k → k < l.place → 512 ≤ held k l.blocks.items;
  room : held l.place l.blocks.items < 512;
  one : l.place < l.fn.from → 512 ≤ held l.place l.blocks.items + 1;
  capacity : l.starts.cap ≡ l.fn.starts.cap;
}

abbrev pub decreases-loop-place : goal.decreases-loop-place
decreases-loop-place g l = l.place
