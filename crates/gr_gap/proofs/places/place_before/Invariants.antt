-- The blocks passed so far are full.
use Rattle.std.proofs.Common.{ℕ, ◌<◌, ◌≤◌, length}
use Rattle.gr_gap.specs.Blocks.{held}
use Rattle.gr_gap.proofs.places.place_before.Given as goal

abbrev pub invariant-loop-block : goal.invariant-loop-block
invariant-loop-block g l = record {
  within : l.block ≤ l.fn.upto;
  full : (k : ℕ) → l.block ≤ k → k < length l.blocks.items → 512 ≤ held k l.blocks.items;
}

abbrev pub decreases-loop-block : goal.decreases-loop-block
decreases-loop-block g l = l.block
