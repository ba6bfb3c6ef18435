use Rattle.std.proofs.Common.{◌≡◌, ◌++◌, map, drop}
use Rattle.gr_model.specs.Orders.{ordered_line}
use Rattle.gr_order_lists.proofs.list.put_items.Given as goal

-- what is told so far, and then what is left, is the whole
abbrev pub invariant-events : goal.invariant-events
invariant-events l = l.lines ++ map (ordered_line l.subscriber) (drop l.item-index l.items) ≡ l.initial.lines ++ map (ordered_line l.subscriber) l.items
