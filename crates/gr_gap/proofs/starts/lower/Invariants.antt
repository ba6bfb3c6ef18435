-- With what is left to change, all is changed.
use Rattle.std.proofs.Common.{◌≡◌, ℕ, ◌-◌, ◌≤◌, length, get_or}
use Rattle.gr_gap.specs.Blocks.{changed_from}
use Rattle.gr_gap.proofs.starts.lower.Given as goal

abbrev pub invariant-loop-block : goal.invariant-loop-block
invariant-loop-block l = record {
  items : changed_from (λ s. s - l.fn.by) l.block l.starts.items ≡ changed_from (λ s. s - l.fn.by) l.fn.from l.initial.starts.items;
  len : length l.starts.items ≡ length l.initial.starts.items;
  left : (k : ℕ) → l.block ≤ k → get_or l.starts.items k 0 ≡ get_or l.initial.starts.items k 0;
  order : l.fn.from ≤ l.block;
  capacity : l.starts.cap ≡ l.initial.starts.cap;
}

abbrev pub decreases-loop-block : goal.decreases-loop-block
decreases-loop-block l = length l.starts.items - l.block
