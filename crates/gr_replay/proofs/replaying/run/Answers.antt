use Rattle.std.proofs.Common.{[], ◌++◌, ◌+◌, take, refl, sym, ap, ◌∙◌, subst, arith, append_assoc, append-nil}
use Rattle.gr_model.specs.Orders.{AreOrdersOf, with_orders}
use Rattle.gr_model.specs.World.{next, run_from_by}
use Rattle.gr_world.specs.Seen.{net_in, world_of}
use Rattle.gr_out.specs.Page.{TakesBut}
use Rattle.gr_out.specs.Page.{TakesFront}
use Rattle.gr_replay.specs.Going.{step_text, text_from}
use Rattle.gr_out.proofs.Fronts.{front-later, front-more, front-held, but-later, with_more-nil, on_fault}
use Rattle.gr_replay.proofs.RunTexts.{text_step, leads_step, left_step, left_are, text_rest}
use Rattle.gr_replay.proofs.replaying.run.Goals as goal

pub steps-init : goal.steps-init
unfolding run_from_by with_orders
steps-init g c = record {
  going = c.requires.going;
  topology = refl;
  lanes = c.requires.lanes;
  leads = refl;
  orders = c.requires.orders;
  left = refl;
  put = record { part = []; whole = append-nil c.args.page.now.held; taken = sym (with_more-nil (g.K.Sink.taken c.args.sink.now)) };
  same = refl;
  faults = omega arith;
  stops = omega arith;
  faultless = λ h. h;
}

pub returns-in-Err-clause-front : goal.returns-in-Err-clause-front
returns-in-Err-clause-front g c =
    let i = c.steps.invariant in
    let first = c.args.world.now in
    let os = c.args.orders.now in
    let held = c.args.page.now.held in
    let done = text_from first os (take c.steps.line-index c.args.steps.now) in
    let text = step_text c.steps.world c.steps.orders c.line-item.result in
    let rest = text_rest first os c.args.steps.now (c.steps.line-index + 1) in
    let step = text_step first c.steps.world os c.steps.orders c.args.steps.now c.steps.line-index c.line-item.result c.steps-test.true c.line-item.is i.topology i.leads i.left in
    let front = front-later _ _ _ (held ++ done) text c.steps.page.held i.put c.in-Err.ensures.front in
    subst (TakesFront (g.K.Sink.taken c.args.sink.now) (g.K.Sink.taken c.turn.new.sink))
    (ap (λ xs. xs ++ rest.0) (append_assoc held done text) ∙ append_assoc held (done ++ text) rest.0 ∙ ap (λ xs. held ++ xs) (ap (λ xs. xs ++ rest.0) (sym step) ∙ sym rest.1))
    (front-more _ _ ((held ++ done) ++ text) rest.0 front)

pub steps-preserved : goal.steps-preserved
steps-preserved g c =
    let i = c.steps.invariant in
    let first = c.args.world.now in
    let w = c.steps.world in
    let os = c.args.orders.now in
    let now = c.steps.orders in
    let steps = c.args.steps.now in
    let at = c.steps.line-index in
    let l = c.line-item.result in
    let held = c.args.page.now.held in
    let done = text_from first os (take at steps) in
    let text = step_text w now l in
    let told = (next (net_in w) (world_of w) l).lines in
    record {
      going = c.in-Ok.ensures.going;
      topology = c.turn.ensures.topology ∙ i.topology;
      lanes = c.turn.ensures.lanes;
      leads = leads_step first w steps at l (world_of c.turn.new.world) c.steps-test.true c.line-item.is i.topology i.leads c.in-Ok.ensures.leads;
      orders = subst (λ t. AreOrdersOf t c.turn.new.orders) (sym c.turn.ensures.topology) (left_are w.topo now c.turn.new.orders told i.orders c.in-Ok.ensures.left);
      left = left_step first w os now c.turn.new.orders steps at l c.steps-test.true c.line-item.is i.topology i.leads i.left c.in-Ok.ensures.left;
      put = subst (λ xs. TakesBut (g.K.Sink.taken c.args.sink.now) (g.K.Sink.taken c.turn.new.sink) xs c.turn.new.page.held)
          (append_assoc held done text ∙ ap (λ xs. held ++ xs) (sym (text_step first w os now steps at l c.steps-test.true c.line-item.is i.topology i.leads i.left)))
          (but-later _ _ _ (held ++ done) text c.steps.page.held c.turn.new.page.held i.put c.in-Ok.ensures.put);
      same = c.in-Ok.ensures.sink.same (λ e. cc) ∙ i.same;
      faults = omega (arith, i.faults, c.turn.ensures.counts.faults_never_fall);
      stops = omega (arith, i.stops, c.turn.ensures.counts.stops_never_fall);
      faultless = λ h. c.turn.ensures.faultless.stays (i.faultless h);
    }

pub returns-clause-front : goal.returns-clause-front
returns-clause-front g c =
    let i = c.steps.invariant in
    let held = c.args.page.now.held in
    let done = text_from c.args.world.now c.args.orders.now (take c.steps.line-index c.args.steps.now) in
    let rest = text_rest c.args.world.now c.args.orders.now c.args.steps.now c.steps.line-index in
    on_fault c.flush.result
    (λ f. subst (TakesFront (g.K.Sink.taken c.args.sink.now) (g.K.Sink.taken c.flush.new.sink))
    (append_assoc held done rest.0 ∙ ap (λ xs. held ++ xs) (sym rest.1))
    (front-more _ _ (held ++ done) rest.0 (front-held _ _ _ (held ++ done) c.steps.page.held i.put f)))
    c.flush.ensures.front
