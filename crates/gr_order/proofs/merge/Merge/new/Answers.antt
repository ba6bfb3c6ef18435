use Rattle.std.proofs.Common.{arith}
use Rattle.gr_order.proofs.Horizons.{least_new}
use Rattle.gr_order.proofs.merge.Merge.new.Goals as goal

pub invariant_of-result : goal.invariant_of-result
invariant_of-result c =
    least_new c.from.result c.in_ok-vec.field-0.items (omega (arith, c.requires, c.from.ensures)) (c.in_ok-vec.ensures.items_if_clones_equal (λ y same. same))
