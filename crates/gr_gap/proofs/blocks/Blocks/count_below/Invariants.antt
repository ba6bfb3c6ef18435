-- All values up to the start of the block before the lower place have a rank below, and those from the start of the one
-- at the upper place on have not.
use Rattle.std.proofs.Common.{ℕ, ◌-◌, ◌<◌, ◌≤◌, length, get_or}
use Rattle.gr_gap.specs.Blocks.{values_of}
use Rattle.gr_gap.proofs.blocks.Blocks.count_below.Given as goal

abbrev pub invariant-loop-low : goal.invariant-loop-low
invariant-loop-low g l = record {
  ordered : l.low ≤ l.high;
  within : l.high ≤ length l.self-inside.starts.items;
  below : (k : ℕ) (d : g.row.T.Denot) → 0 < l.low → k ≤ get_or l.self-inside.starts.items (l.low - 1) 0
      → k < length (values_of l.self-inside.blocks.items)
      → g.T.Ranked.rank_of (get_or (values_of l.self-inside.blocks.items) k d) < l.rank;
  behind : (k : ℕ) (d : g.row.T.Denot) → l.high < length l.self-inside.starts.items
      → get_or l.self-inside.starts.items l.high 0 ≤ k → k < length (values_of l.self-inside.blocks.items)
      → l.rank ≤ g.T.Ranked.rank_of (get_or (values_of l.self-inside.blocks.items) k d);
}

abbrev pub decreases-loop-low : goal.decreases-loop-low
decreases-loop-low g l = l.high - l.low
