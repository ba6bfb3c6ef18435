use Rattle.std.proofs.Common.{sym, ap, ◌∙◌, subst}
use Rattle.gr_out.specs.Page.{TakesBut, TakesFront}
use Rattle.gr_model.specs.Orders.{AreOrdersOf}
use Rattle.gr_replay.specs.Going.{left_behind}
use Rattle.gr_replay.proofs.OrderPages.{opening_text}
use Rattle.gr_replay.proofs.replaying.first_page.Goals as goal

pub put_step-requires-clause-orders : goal.put_step-requires-clause-orders
put_step-requires-clause-orders g c = subst (λ t. AreOrdersOf t c.args.orders.now) (sym c.topology.ensures) c.requires.orders

pub returns-in-Ok-put_step-clause-ok : goal.returns-in-Ok-put_step-clause-ok
returns-in-Ok-put_step-clause-ok g c =
    subst (λ xs. TakesBut (g.K.Sink.taken c.args.sink.now) (g.K.Sink.taken c.put_step.new.sink) xs c.put_step.new.page.held)
    (opening_text c.in-Ok.page.held c.topology.result.now c.args.world.now.topo c.args.orders.now c.as_slice.result.now c.in-Ok-opened.told c.args.world.now.told c.in-Ok.ensures.empty c.topology.ensures c.as_slice.ensures c.in-Ok-opened.ensures)
    c.in-Ok-put_step.ensures.ok

pub returns-in-Err-put_step-clause-front : goal.returns-in-Err-put_step-clause-front
returns-in-Err-put_step-clause-front g c =
    subst (TakesFront (g.K.Sink.taken c.args.sink.now) (g.K.Sink.taken c.put_step.new.sink))
    (opening_text c.in-Ok.page.held c.topology.result.now c.args.world.now.topo c.args.orders.now c.as_slice.result.now c.in-Ok-opened.told c.args.world.now.told c.in-Ok.ensures.empty c.topology.ensures c.as_slice.ensures c.in-Ok-opened.ensures)
    c.in-Err-put_step.ensures.front

pub returns-in-Ok-put_step-clause-left : goal.returns-in-Ok-put_step-clause-left
returns-in-Ok-put_step-clause-left g c = c.in-Ok-put_step.ensures.left ∙ ap (left_behind c.args.orders.now) (c.as_slice.ensures ∙ c.in-Ok-opened.ensures)
