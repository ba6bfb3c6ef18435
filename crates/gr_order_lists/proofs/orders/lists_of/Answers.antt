use Rattle.std.proofs.Common.{◌≡◌, ◌<◌, ◌-◌, ◌+◌, ◌++◌, ◌∷◌, [], ◌∙◌, refl, ap, map, length, arith}
use Rattle.std.specs.List.{filter}
use Rattle.std.proofs.lemmas.List.{length_push}
use Rattle.gr_tree.specs.Walks.{numbers_from}
use Rattle.gr_topo.specs.Topology.{total_of, totals_of}
use Rattle.gr_model.specs.Orders.{fresh_order}
use Rattle.gr_order_lists.proofs.PlacedLists.{added, few_more, one_less}
use Rattle.gr_order_lists.proofs.orders.lists_of.Goals as goal

pub subscribers-preserved : goal.subscribers-preserved
subscribers-preserved c =
    let t = c.args.topology.now in
    let n = length c.args.topology.now.publishers in
    let s = c.subscribers.s in
    let inside : c.subscribers.s < length c.args.topology.now.subscribers = omega (arith, c.subscribers-test.true, c.subscribers-s-end.ensures.count) in
    let table = ap length c.in_ok-push.ensures.items in
    let longer = length_push c.subscribers.places.items c.count_of.result in
    record {
      lists =
          ap (λ xs. xs ++ map (fresh_order n) (filter (total_of t) (numbers_from (s + 1) (length t.subscribers - (s + 1))))) c.in_ok-add_list.ensures
          ∙ one_less (fresh_order n) (total_of t) c.subscribers.lists.items (map (fresh_order n) (totals_of t)) s (length t.subscribers) inside c.subscribers.invariant.lists;
      placed = added c.subscribers.lists.items c.add_list.new.lists.items c.subscribers.places.items c.push.new.self.items (fresh_order n s) s c.count_of.result (total_of t s)
          c.subscribers.invariant.placed refl c.subscribers.invariant.size c.count_of.ensures c.in_ok-add_list.ensures c.in_ok-push.ensures.items;
      size = omega (arith, table, longer, c.subscribers.invariant.size);
      few = few_more c.subscribers.lists.items c.add_list.new.lists.items (fresh_order n s) s (total_of t s) c.in_ok-add_list.ensures c.subscribers.invariant.few;
    }
