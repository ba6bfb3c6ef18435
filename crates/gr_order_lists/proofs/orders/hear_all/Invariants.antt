use Rattle.std.proofs.Common.{◌≡◌, drop}
use Rattle.gr_model.specs.Orders.{fed}
use Rattle.gr_order_lists.specs.Places.{ArePlaced}
use Rattle.gr_order_lists.proofs.orders.hear_all.Given as goal

-- what is left to hear leads to the end, and the table still finds each list
abbrev pub invariant-lines : goal.invariant-lines
invariant-lines l = record {
  heard : fed l.lists.items (drop l.line-index l.lines) ≡ fed l.initial.lists.items l.lines;
  placed : ArePlaced 0 l.lists.items l.places;
}
