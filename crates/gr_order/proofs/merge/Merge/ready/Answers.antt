use Rattle.std.proofs.Common.{◌≡◌, List, length, drop, ap, sym, ◌∙◌, subst, arith}
use Rattle.gr_order.specs.declared.item.Item.{Item}
use Rattle.gr_order.specs.Order.{IsRising}
use Rattle.gr_order.proofs.Placing.{rising_up_to}
use Rattle.gr_order.proofs.Keeping.{gave}
use Rattle.gr_order.proofs.merge.Merge.ready.Goals as goal

pub returns-clause-rises : goal.returns-clause-rises
returns-clause-rises c =
    subst (λ (is : List Item). IsRising is) (sym (c.of.ensures ∙ c.in_ok-items.ensures.given)) (rising_up_to c.self.inside.least _ c.in_ok-items.ensures.rising)

pub returns-clause-ok : goal.returns-clause-ok
returns-clause-ok c =
    let count : c.len.result ≡ length c.in_ok-items.items.items = omega (arith, c.len.ensures, c.in_ok-items.items.ok.0) in
    gave c.self.inside.waiting.entries c.drop_first.new.waiting.entries c.in_ok-items.items.items c.self.inside.horizons.items c.self.inside.least c.args.self.now c.self.view_is c.self.invariant.1 c.in_ok-items.ensures.rising c.in_ok-items.ensures.given (c.drop_first.ensures ∙ ap (λ n. drop n c.self.inside.waiting.entries) count)
