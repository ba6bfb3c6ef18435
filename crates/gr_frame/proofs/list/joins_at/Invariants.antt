use Rattle.std.proofs.Common.{◌≡◌, ◌≤◌, ◌+◌, ◌*◌, ◌-◌, [], length}
use Rattle.gr_event.specs.Joins.{AreJoins}
use Rattle.gr_frame.specs.Decode.{joins_at}
use Rattle.gr_frame.proofs.list.joins_at.Given as goal

abbrev pub invariant-loop : goal.invariant-loop
invariant-loop l = record {
  place : l.at ≡ 14 + 10 * l.counter;
  inside : l.at ≤ length l.bytes;
  many : length l.found.items ≡ l.counter;
  are : AreJoins l.found.items;
  read : joins_at l.bytes (l.count - l.counter) l.at l.found.items ≡ joins_at l.bytes l.count 14 [];
}
