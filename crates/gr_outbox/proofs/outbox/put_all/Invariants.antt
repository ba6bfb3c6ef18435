-- The frames that are left complete those that were put
use Rattle.std.proofs.Common.{◌≡◌, ◌++◌, length}
use Rattle.std.specs.Vec.Iter.{into_iter_items, into_iter_len}
use Rattle.gr_outbox.proofs.outbox.put_all.Given as goal

abbrev pub invariant-frames : goal.invariant-frames
invariant-frames l = record {
  put : l.said.items ++ into_iter_items l.frame-iterator ≡ l.fn.said.items ++ into_iter_items l.initial.frame-iterator;
  count : into_iter_len l.frame-iterator ≡ length (into_iter_items l.frame-iterator);
}
