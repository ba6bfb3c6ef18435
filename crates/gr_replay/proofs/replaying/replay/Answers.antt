use Rattle.std.proofs.Common.{◌≡◌, inr, Err, take, sym, ap, ◌∙◌, subst, refl}
use Rattle.gr_out.specs.declared.fault.RunFault.TheVariants as run
use Rattle.gr_out.specs.Bytes.{with_more}
use Rattle.gr_model.specs.Orders.{AreOrdersOf, orders_of}
use Rattle.gr_model.specs.Text.{labels_of, report_text}
use Rattle.gr_model.proofs.Ordering.{orders_are}
use Rattle.gr_out.specs.Page.{TakesFront}
use Rattle.gr_replay.specs.Going.{with_ready, left_behind, text_from}
use Rattle.gr_out.proofs.Fronts.{with_more-nil, front-more, front-later, taken-later, on_fault, on_success}
use Rattle.gr_replay.proofs.OrderTexts.{replayed_none}
use Rattle.gr_replay.specs.Over.{ReplaysOver, AtMostCut}
use Rattle.gr_replay.proofs.RunTexts.{whole_text, over_text, left_are}
use Rattle.gr_replay.proofs.replaying.replay.Goals as goal

pub first_page-requires-clause-orders : goal.first_page-requires-clause-orders
first_page-requires-clause-orders g c =
    subst (AreOrdersOf c.in-Ok.world.topo) (sym (c.in-Ok-new.ensures ∙ ap orders_of c.topology.ensures)) (orders_are c.in-Ok.world.topo)

pub run-done-requires-clause-orders : goal.run-done-requires-clause-orders
run-done-requires-clause-orders g c =
    left_are c.in-Ok.world.topo c.in-Ok-new.orders c.first_page.new.orders c.in-Ok.world.told
    (subst (AreOrdersOf c.in-Ok.world.topo) (sym (c.in-Ok-new.ensures ∙ ap orders_of c.topology.ensures)) (orders_are c.in-Ok.world.topo))
    c.in-Ok-first_page.ensures.left

pub returns-in-Err-clause-before : goal.returns-in-Err-clause-before
returns-in-Err-clause-before g c = λ f e.
    (0, sym (ap (with_more (g.K.Sink.taken c.args.sink.now)) (replayed_none c.args.topology) ∙ with_more-nil (g.K.Sink.taken c.args.sink.now)))

pub returns-in-Err-first_page-clause-front : goal.returns-in-Err-first_page-clause-front
returns-in-Err-first_page-clause-front g c = λ f.
    let w = c.in-Ok.world in
    let os = c.in-Ok-new.orders in
    let fresh = c.in-Ok.ensures.fresh f in
    let same : os ≡ orders_of c.args.topology = c.in-Ok-new.ensures ∙ ap orders_of (c.topology.ensures ∙ c.in-Ok.ensures.topology) in
    let told = report_text (labels_of w.topo) (with_ready os w.told) in
    let text = whole_text c.args.topology w os (left_behind os w.told) c.args.steps.now c.args.steps.now same refl fresh.1 refl c.in-Ok.ensures.topology fresh.0 in
    subst (TakesFront (g.K.Sink.taken c.args.sink.now) (g.K.Sink.taken c.first_page.new.sink)) text
    (front-more _ _ told (text_from w (left_behind os w.told) c.args.steps.now) c.in-Err-first_page.ensures.front)

pub returns-clause-report : goal.returns-clause-report
returns-clause-report g c = λ f.
    let w = c.in-Ok.world in
    let os = c.in-Ok-new.orders in
    let left = c.first_page.new.orders in
    let fresh = c.in-Ok.ensures.fresh f in
    let same : os ≡ orders_of c.args.topology = c.in-Ok-new.ensures ∙ ap orders_of (c.topology.ensures ∙ c.in-Ok.ensures.topology) in
    let told = report_text (labels_of w.topo) (with_ready os w.told) in
    let text = whole_text c.args.topology w os left c.as_slice.result.now c.args.steps.now same c.in-Ok-first_page.ensures.left fresh.1 c.as_slice.ensures c.in-Ok.ensures.topology fresh.0 in
    on_success c.run-done.result
    (λ e. taken-later _ _ _ told (text_from w left c.as_slice.result.now) c.in-Ok-first_page.page.held c.in-Ok-first_page.ensures.ok e ∙ ap (with_more (g.K.Sink.taken c.args.sink.now)) text)
    c.run-done.ensures.report

pub returns-clause-front : goal.returns-clause-front
returns-clause-front g c = λ f.
    let w = c.in-Ok.world in
    let os = c.in-Ok-new.orders in
    let left = c.first_page.new.orders in
    let fresh = c.in-Ok.ensures.fresh f in
    let same : os ≡ orders_of c.args.topology = c.in-Ok-new.ensures ∙ ap orders_of (c.topology.ensures ∙ c.in-Ok.ensures.topology) in
    let told = report_text (labels_of w.topo) (with_ready os w.told) in
    let text = whole_text c.args.topology w os left c.as_slice.result.now c.args.steps.now same c.in-Ok-first_page.ensures.left fresh.1 c.as_slice.ensures c.in-Ok.ensures.topology fresh.0 in
    on_fault c.run-done.result
    (λ h. subst (TakesFront (g.K.Sink.taken c.args.sink.now) (g.K.Sink.taken c.run-done.new.sink)) text
    (front-later _ _ _ told (text_from w left c.as_slice.result.now) c.in-Ok-first_page.page.held c.in-Ok-first_page.ensures.ok h))
    c.run-done.ensures.front

pub returns-clause-before : goal.returns-clause-before
returns-clause-before g c = λ f e.
    let w = c.in-Ok.world in
    let os = c.in-Ok-new.orders in
    let left = c.first_page.new.orders in
    let fresh = c.in-Ok.ensures.fresh f in
    let same : os ≡ orders_of c.args.topology = c.in-Ok-new.ensures ∙ ap orders_of (c.topology.ensures ∙ c.in-Ok.ensures.topology) in
    let told = report_text (labels_of w.topo) (with_ready os w.told) in
    let k = c.run-done.ensures.before e in
    let text = whole_text c.args.topology w os left (take k.0 c.as_slice.result.now) (take k.0 c.args.steps.now) same c.in-Ok-first_page.ensures.left fresh.1 (ap (take k.0) c.as_slice.ensures) c.in-Ok.ensures.topology fresh.0 in
    (k.0, taken-later _ _ _ told (text_from w left (take k.0 c.as_slice.result.now)) c.in-Ok-first_page.page.held c.in-Ok-first_page.ensures.ok k.1 ∙ ap (with_more (g.K.Sink.taken c.args.sink.now)) text)

pub returns-in-Err-clause-damaged : goal.returns-in-Err-clause-damaged
returns-in-Err-clause-damaged g c = λ p at e.
    let same : c.in-Err.fault ≡ run.Damaged p at = cc in
    c.in-Err.ensures.damaged p at (ap (λ f. Err f) same)

pub returns-in-Err-first_page-clause-sink_same : goal.returns-in-Err-first_page-clause-sink_same
returns-in-Err-first_page-clause-sink_same g c = λ other.
    c.in-Err-first_page.ensures.sink.same (λ e. let same : c.in-Err-first_page.fault ≡ run.Write = cc in other (ap (λ f. Err f) same))

pub returns-clause-over : goal.returns-clause-over
returns-clause-over g c =
    let w = c.in-Ok.world in
    let os = c.in-Ok-new.orders in
    let left = c.first_page.new.orders in
    let told = report_text (labels_of w.topo) (with_ready os w.told) in
    let text = over_text w os left c.as_slice.result.now c.args.steps.now (c.in-Ok-new.ensures ∙ ap orders_of c.topology.ensures) c.in-Ok-first_page.ensures.left c.as_slice.ensures in
    on_success c.run-done.result
    (λ e. let over : ReplaysOver c.args.topology c.args.steps.now (g.D.Disk.lane_of c.args.disk.now) (g.K.Sink.taken c.args.sink.now) (g.K.Sink.taken c.run-done.new.sink) = record {
      world = w;
      over = c.in-Ok.ensures.over;
      taken = taken-later _ _ _ told (text_from w left c.as_slice.result.now) c.in-Ok-first_page.page.held c.in-Ok-first_page.ensures.ok e ∙ ap (with_more (g.K.Sink.taken c.args.sink.now)) text;
    } in over)
    c.run-done.ensures.report

pub returns-in-Err-first_page-clause-over_front : goal.returns-in-Err-first_page-clause-over_front
returns-in-Err-first_page-clause-over_front g c =
    let w = c.in-Ok.world in
    let os = c.in-Ok-new.orders in
    let told = report_text (labels_of w.topo) (with_ready os w.told) in
    let text = over_text w os (left_behind os w.told) c.args.steps.now c.args.steps.now (c.in-Ok-new.ensures ∙ ap orders_of c.topology.ensures) refl refl in
    inr (record {
      world = w;
      over = c.in-Ok.ensures.over;
      front = subst (TakesFront (g.K.Sink.taken c.args.sink.now) (g.K.Sink.taken c.first_page.new.sink)) text
          (front-more _ _ told (text_from w (left_behind os w.told) c.args.steps.now) c.in-Err-first_page.ensures.front);
    })

pub returns-clause-over_front : goal.returns-clause-over_front
returns-clause-over_front g c =
    let w = c.in-Ok.world in
    let os = c.in-Ok-new.orders in
    let left = c.first_page.new.orders in
    let told = report_text (labels_of w.topo) (with_ready os w.told) in
    let text = over_text w os left c.as_slice.result.now c.args.steps.now (c.in-Ok-new.ensures ∙ ap orders_of c.topology.ensures) c.in-Ok-first_page.ensures.left c.as_slice.ensures in
    on_fault c.run-done.result
    (λ h. let cut : AtMostCut c.args.topology c.args.steps.now (g.D.Disk.lane_of c.args.disk.now) (g.K.Sink.taken c.args.sink.now) (g.K.Sink.taken c.run-done.new.sink) = inr (record {
      world = w;
      over = c.in-Ok.ensures.over;
      front = subst (TakesFront (g.K.Sink.taken c.args.sink.now) (g.K.Sink.taken c.run-done.new.sink)) text
          (front-later _ _ _ told (text_from w left c.as_slice.result.now) c.in-Ok-first_page.page.held c.in-Ok-first_page.ensures.ok h);
    }) in cut)
    c.run-done.ensures.front
