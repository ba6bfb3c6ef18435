use Rattle.std.proofs.Common.{◌≡◌, ◌++◌, map}
use Rattle.gr_order.specs.Merge.{item_of}
use Rattle.gr_order.proofs.Keeping.{front_to}
use Rattle.gr_order.proofs.merge.first_items.Given as goal

-- what was read, and the front of what is left
abbrev pub invariant-loop-place : goal.invariant-loop-place
invariant-loop-place l = l.items.items ++ front_to l.tick (map item_of l.place-iterator) ≡ front_to l.tick (map item_of l.waiting.entries)
