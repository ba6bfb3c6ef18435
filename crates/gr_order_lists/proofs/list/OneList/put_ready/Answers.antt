use Rattle.std.proofs.Common.{subst, sym}
use Rattle.gr_order.specs.Merge.{MergeView}
use Rattle.gr_model.specs.Orders.{IsOrder}
use Rattle.gr_model.proofs.Ordering.{rested_fits}
use Rattle.gr_order_lists.proofs.list.OneList.put_ready.Goals as goal

pub invariant_of-self-2 : goal.invariant_of-self-2
invariant_of-self-2 c =
    subst (λ (m : MergeView). IsOrder m c.self.inside.reached.items) (sym c.in_ok-items.ensures.ok) (rested_fits c.self.inside.merge c.self.inside.reached.items c.self.invariant)
