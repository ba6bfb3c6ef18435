use Rattle.std.proofs.Common.{◌≡◌, ◌≤◌, ◌-◌, ◌++◌, length, map}
use Rattle.std.specs.List.{filter}
use Rattle.gr_tree.specs.Walks.{numbers_from}
use Rattle.gr_topo.specs.Topology.{total_of, totals_of}
use Rattle.gr_model.specs.Orders.{fresh_order}
use Rattle.gr_order_lists.specs.Places.{ArePlaced}
use Rattle.gr_order_lists.proofs.orders.lists_of.Given as goal

-- with the lists of the subscribers that are left these are all, and the table has a place for each subscriber so far
abbrev pub invariant-subscribers : goal.invariant-subscribers
invariant-subscribers l = record {
  lists : l.lists.items ++ map (fresh_order (length l.topology.publishers)) (filter (total_of l.topology) (numbers_from l.s (length l.topology.subscribers - l.s)))
      ≡ map (fresh_order (length l.topology.publishers)) (totals_of l.topology);
  placed : ArePlaced 0 l.lists.items l.places.items;
  size : length l.places.items ≡ l.s;
  few : length l.lists.items ≤ l.s;
}
