-- The lines of the frames that are left complete those told so far
use Rattle.std.proofs.Common.{◌≡◌, ◌+◌, ◌++◌, suc, length}
use Rattle.gr_model.specs.World.{sent_lines}
use Rattle.gr_outbox.proofs.outbox.put_lines.Given as goal

abbrev pub invariant-frames : goal.invariant-frames
invariant-frames l = record {
  told : l.lines ++ sent_lines (suc l.number) l.said.items ≡ l.fn.lines ++ sent_lines (suc l.first) l.fn.said.items;
  count : l.number + length l.said.items ≡ l.first + length l.fn.said.items;
}

abbrev pub decreases-frames : goal.decreases-frames
decreases-frames l = length l.said.items
