-- The blocks passed so far are full.
use Rattle.std.proofs.Common.{ℕ, ◌-◌, ◌<◌, ◌≤◌, length}
use Rattle.gr_gap.specs.Blocks.{held}
use Rattle.gr_gap.proofs.places.place_behind.Given as goal

abbrev pub invariant-loop-block : goal.invariant-loop-block
invariant-loop-block g l = record {
  within : l.fn.from ≤ l.block;
  end : l.block ≤ length l.blocks.items;
  full : (k : ℕ) → l.fn.from ≤ k → k < l.block → 512 ≤ held k l.blocks.items;
}

abbrev pub decreases-loop-block : goal.decreases-loop-block
decreases-loop-block g l = length l.blocks.items - l.block
