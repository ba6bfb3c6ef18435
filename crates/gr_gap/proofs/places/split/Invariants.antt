-- The block has so many values left, and the one behind it the others.
use Rattle.std.proofs.Common.{◌≡◌, ◌+◌, ◌≤◌, length, get_or}
use Rattle.gr_gap.specs.Blocks.{held, Rearranged}
use Rattle.gr_gap.proofs.places.split.Given as goal

abbrev pub invariant-loop-left : goal.invariant-loop-left
invariant-loop-left g l = record {
  row : Rearranged 512 l.fn.blocks.items l.starts.items l.blocks.items;
  starts : length l.starts.items ≡ length l.fn.starts.items + 1;
  begins : get_or l.starts.items l.fn.block 0 ≡ get_or l.fn.starts.items l.fn.block 0;
  left : held l.fn.block l.blocks.items ≡ l.left;
  rest : held (l.fn.block + 1) l.blocks.items + l.left ≡ 512;
  more : l.fn.kept ≤ l.left;
  capacity : l.starts.cap ≡ l.fn.starts.cap;
}

abbrev pub decreases-loop-left : goal.decreases-loop-left
decreases-loop-left g l = l.left
