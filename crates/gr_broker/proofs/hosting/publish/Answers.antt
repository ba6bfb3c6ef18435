-- A publish is what its answer is; where nothing is logged the lane is as it was
use Rattle.std.proofs.Common.{refl, sym, ap, ◌∙◌}
use Rattle.gr_publog.proofs.Passing.{appends_unmade}
use Rattle.gr_pubend.specs.declared.answers.Published.{Published}
use Rattle.gr_pubend.specs.Answers.{event_of}
use Rattle.gr_pubend.specs.Log.{said}
use Rattle.gr_broker_relay.specs.Held.{held_view, shown_net}
use Rattle.gr_broker.proofs.Hosted.{publish_is, line_told, on_ok, appends_idle}
use Rattle.gr_broker.proofs.hosting.publish.Goals as goal

pub returns-in-Err-clause-lane : goal.returns-in-Err-clause-lane
returns-in-Err-clause-lane g c = λ t. appends_unmade c.stands_read.ensures c.args.log.now _ _ (c.requires.stands t) refl _

pub returns-in-Logged-clause-told : goal.returns-in-Logged-clause-told
returns-in-Logged-clause-told g c =
    let is = publish_is (shown_net c.args.site.now.topo.now c.args.held.now) c.args.site.now.publisher c.args.site.now.broker c.args.now c.args.number c.args.event.now (held_view c.args.held.now) (said c.args.log.now) _ (sym c.in-Ok.ensures.answer ∙ c.in-Logged.is) in
    rw is c.log_event-done.ensures.told

pub returns-in-Logged-clause-view : goal.returns-in-Logged-clause-view
returns-in-Logged-clause-view g c =
    let is = publish_is (shown_net c.args.site.now.topo.now c.args.held.now) c.args.site.now.publisher c.args.site.now.broker c.args.now c.args.number c.args.event.now (held_view c.args.held.now) (said c.args.log.now) _ (sym c.in-Ok.ensures.answer ∙ c.in-Logged.is) in
    rw is c.log_event-done.ensures.view

pub returns-in-Already-clause-told : goal.returns-in-Already-clause-told
returns-in-Already-clause-told g c =
    let is = publish_is (shown_net c.args.site.now.topo.now c.args.held.now) c.args.site.now.publisher c.args.site.now.broker c.args.now c.args.number c.args.event.now (held_view c.args.held.now) (said c.args.log.now) _ (sym c.in-Ok.ensures.answer ∙ c.in-Already.is) in
    rw is (line_told c.tell.result c.tell.new.into _ _ _ c.tell.ensures.lines c.tell.ensures.frames)

pub returns-in-Already-clause-view : goal.returns-in-Already-clause-view
returns-in-Already-clause-view g c =
    let is = publish_is (shown_net c.args.site.now.topo.now c.args.held.now) c.args.site.now.publisher c.args.site.now.broker c.args.now c.args.number c.args.event.now (held_view c.args.held.now) (said c.args.log.now) _ (sym c.in-Ok.ensures.answer ∙ c.in-Already.is) in
    rw is (on_ok c.tell.result _ refl)

pub returns-in-Already-clause-lane : goal.returns-in-Already-clause-lane
returns-in-Already-clause-lane g c = λ t.
    let none = ap (λ (p : Published). event_of p c.args.number c.args.event.now) (sym c.in-Ok.ensures.answer ∙ c.in-Already.is) in
    appends_idle c.stands_read.ensures c.args.log.now _ _ _ _ none (c.requires.stands t) refl c.tell.ensures.err

pub returns-in-Gap-clause-told : goal.returns-in-Gap-clause-told
returns-in-Gap-clause-told g c =
    let is = publish_is (shown_net c.args.site.now.topo.now c.args.held.now) c.args.site.now.publisher c.args.site.now.broker c.args.now c.args.number c.args.event.now (held_view c.args.held.now) (said c.args.log.now) _ (sym c.in-Ok.ensures.answer ∙ c.in-Gap.is) in
    rw is (line_told c.tell-in-Gap.result c.tell-in-Gap.new.into _ _ _ c.tell-in-Gap.ensures.lines c.tell-in-Gap.ensures.frames)

pub returns-in-Gap-clause-view : goal.returns-in-Gap-clause-view
returns-in-Gap-clause-view g c =
    let is = publish_is (shown_net c.args.site.now.topo.now c.args.held.now) c.args.site.now.publisher c.args.site.now.broker c.args.now c.args.number c.args.event.now (held_view c.args.held.now) (said c.args.log.now) _ (sym c.in-Ok.ensures.answer ∙ c.in-Gap.is) in
    rw is (on_ok c.tell-in-Gap.result _ refl)

pub returns-in-Gap-clause-lane : goal.returns-in-Gap-clause-lane
returns-in-Gap-clause-lane g c = λ t.
    let none = ap (λ (p : Published). event_of p c.args.number c.args.event.now) (sym c.in-Ok.ensures.answer ∙ c.in-Gap.is) in
    appends_idle c.stands_read.ensures c.args.log.now _ _ _ _ none (c.requires.stands t) refl c.tell-in-Gap.ensures.err

pub returns-in-Exhausted-clause-told : goal.returns-in-Exhausted-clause-told
returns-in-Exhausted-clause-told g c =
    let is = publish_is (shown_net c.args.site.now.topo.now c.args.held.now) c.args.site.now.publisher c.args.site.now.broker c.args.now c.args.number c.args.event.now (held_view c.args.held.now) (said c.args.log.now) _ (sym c.in-Ok.ensures.answer ∙ c.in-Exhausted.is) in
    rw is (line_told c.tell-in-Exhausted.result c.tell-in-Exhausted.new.into _ _ _ c.tell-in-Exhausted.ensures.lines c.tell-in-Exhausted.ensures.frames)

pub returns-in-Exhausted-clause-view : goal.returns-in-Exhausted-clause-view
returns-in-Exhausted-clause-view g c =
    let is = publish_is (shown_net c.args.site.now.topo.now c.args.held.now) c.args.site.now.publisher c.args.site.now.broker c.args.now c.args.number c.args.event.now (held_view c.args.held.now) (said c.args.log.now) _ (sym c.in-Ok.ensures.answer ∙ c.in-Exhausted.is) in
    rw is (on_ok c.tell-in-Exhausted.result _ refl)

pub returns-in-Exhausted-clause-lane : goal.returns-in-Exhausted-clause-lane
returns-in-Exhausted-clause-lane g c = λ t.
    let none = ap (λ (p : Published). event_of p c.args.number c.args.event.now) (sym c.in-Ok.ensures.answer ∙ c.in-Exhausted.is) in
    appends_idle c.stands_read.ensures c.args.log.now _ _ _ _ none (c.requires.stands t) refl c.tell-in-Exhausted.ensures.err
