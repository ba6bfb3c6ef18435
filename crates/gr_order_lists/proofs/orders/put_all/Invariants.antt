use Rattle.gr_order_lists.proofs.ReadyLists.{Going}
use Rattle.gr_order_lists.proofs.orders.put_all.Given as goal

-- what is taken out and told so far leads to the whole
abbrev pub invariant-lists : goal.invariant-lists
invariant-lists l = Going l.initial.lists.items l.initial.lines l.i l.lists.items l.lines
