use Rattle.std.proofs.Common.{sym, subst}
use Rattle.std.specs.Prelude.{List}
use Rattle.gr_model.specs.declared.report.Report.{Report}
use Rattle.gr_model.specs.Orders.{orders_over, ordered_steps}
use Rattle.gr_model.specs.Ordered.{OneOrder}
use Rattle.gr_model_theorems.specs.Statements.{joined_net}
use Rattle.gr_model_theorems.proofs.order.OneOrder.{one_order_always as by_lists}
use Rattle.gr_model_theorems.proofs.joins.AsOne.{as_one}
use Rattle.gr_model_theorems.proofs.theorems.one_order_always.Goals as goal

pub returns : goal.returns
returns c = λ net totals steps r a.
    let x = as_one net steps r.tree r.steps_in in
    subst (λ (rs : List (List Report)). OneOrder (joined_net net steps) totals (ordered_steps (orders_over net.publishers totals) rs)) (sym x.report)
    (by_lists (joined_net net steps) totals steps x.tree r.quiet x.steps_in a.apart a.there)
