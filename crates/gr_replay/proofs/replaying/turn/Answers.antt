use Rattle.std.proofs.Common.{◌≡◌, ◌++◌, ◌∙◌, sym, subst, OnOk, OnErr}
use Rattle.gr_out.specs.Page.{TakesBut}
use Rattle.gr_out.specs.Page.{TakesFront}
use Rattle.gr_model.specs.Orders.{AreOrdersOf}
use Rattle.gr_replay.proofs.RunTexts.{step_lines, step_leaves}
use Rattle.gr_replay.proofs.replaying.turn.Goals as goal

pub put_step-done-requires-clause-orders : goal.put_step-done-requires-clause-orders
put_step-done-requires-clause-orders g c =
    subst (λ t. AreOrdersOf t c.args.orders.now) (sym (c.topology.ensures ∙ c.step.ensures.topology)) c.requires.orders

pub returns-in-Ok-clause-put : goal.returns-in-Ok-clause-put
returns-in-Ok-clause-put g c =
    let text = step_lines c.args.world.now c.step.new.world c.args.orders.now c.args.line.now c.in-Ok.lines c.as_slice.result.now c.topology.result.now (c.topology.ensures ∙ c.step.ensures.topology) c.as_slice.ensures c.in-Ok.ensures.tells in
    subst (λ xs. OnOk c.put_step-done.result (TakesBut (g.K.Sink.taken c.args.sink.now) (g.K.Sink.taken c.put_step-done.new.sink) (c.args.page.now.held ++ xs) c.put_step-done.new.page.held)) text c.put_step-done.ensures.ok

pub returns-in-Ok-clause-left : goal.returns-in-Ok-clause-left
returns-in-Ok-clause-left g c =
    let leaves = step_leaves c.args.world.now c.step.new.world c.args.orders.now c.args.line.now c.in-Ok.lines c.as_slice.result.now c.as_slice.ensures c.in-Ok.ensures.tells in
    subst (λ os. OnOk c.put_step-done.result (c.put_step-done.new.orders ≡ os)) leaves c.put_step-done.ensures.left

pub returns-in-Ok-clause-front : goal.returns-in-Ok-clause-front
returns-in-Ok-clause-front g c =
    let text = step_lines c.args.world.now c.step.new.world c.args.orders.now c.args.line.now c.in-Ok.lines c.as_slice.result.now c.topology.result.now (c.topology.ensures ∙ c.step.ensures.topology) c.as_slice.ensures c.in-Ok.ensures.tells in
    subst (λ xs. OnErr c.put_step-done.result (TakesFront (g.K.Sink.taken c.args.sink.now) (g.K.Sink.taken c.put_step-done.new.sink) (c.args.page.now.held ++ xs))) text c.put_step-done.ensures.front
