-- A time of silence is what its answer is; where nothing is logged the lane is as it was
use Rattle.std.proofs.Common.{refl, sym, ap, ◌∙◌}
use Rattle.gr_publog.proofs.Passing.{appends_none, appends_unmade}
use Rattle.gr_pubend.specs.Answers.{quieted, mark_of}
use Rattle.gr_pubend.specs.Log.{said}
use Rattle.gr_topo.specs.declared.settings.Settings.{Settings}
use Rattle.gr_broker_relay.specs.Held.{held_view, shown_net}
use Rattle.gr_broker.proofs.Hosted.{marking_is, adds_nothing}
use Rattle.gr_broker.proofs.hosting.mark.Goals as goal

pub returns-in-Err-clause-lane : goal.returns-in-Err-clause-lane
returns-in-Err-clause-lane g c = λ t. appends_unmade c.stands_read.ensures c.args.log.now _ _ (c.requires.stands t) refl _

pub returns-in-NotYet-clause-adds : goal.returns-in-NotYet-clause-adds
returns-in-NotYet-clause-adds g c =
    let same = ap (λ (s : Settings). quieted (said c.args.log.now) c.args.now s.quiet) (sym c.settings.ensures.value) in
    let is = marking_is (shown_net c.args.site.now.topo.now c.args.held.now) c.args.site.now.publisher c.args.site.now.broker c.args.now (held_view c.args.held.now) (said c.args.log.now) _ (same ∙ sym c.in-Ok.ensures.answer ∙ c.in-NotYet.is) in
    rw is (adds_nothing c.args.into.now)

pub returns-in-NotYet-clause-view : goal.returns-in-NotYet-clause-view
returns-in-NotYet-clause-view g c =
    let same = ap (λ (s : Settings). quieted (said c.args.log.now) c.args.now s.quiet) (sym c.settings.ensures.value) in
    let is = marking_is (shown_net c.args.site.now.topo.now c.args.held.now) c.args.site.now.publisher c.args.site.now.broker c.args.now (held_view c.args.held.now) (said c.args.log.now) _ (same ∙ sym c.in-Ok.ensures.answer ∙ c.in-NotYet.is) in
    rw is refl

pub returns-in-NotYet-clause-lane : goal.returns-in-NotYet-clause-lane
returns-in-NotYet-clause-lane g c = λ t.
    let same = ap (λ (s : Settings). quieted (said c.args.log.now) c.args.now s.quiet) (sym c.settings.ensures.value) in
    appends_none c.stands_read.ensures c.args.log.now _ _ (c.requires.stands t) refl _ _ (ap mark_of (same ∙ sym c.in-Ok.ensures.answer ∙ c.in-NotYet.is))

pub returns-in-Marked-clause-adds : goal.returns-in-Marked-clause-adds
returns-in-Marked-clause-adds g c =
    let same = ap (λ (s : Settings). quieted (said c.args.log.now) c.args.now s.quiet) (sym c.settings.ensures.value) in
    let is = marking_is (shown_net c.args.site.now.topo.now c.args.held.now) c.args.site.now.publisher c.args.site.now.broker c.args.now (held_view c.args.held.now) (said c.args.log.now) _ (same ∙ sym c.in-Ok.ensures.answer ∙ c.in-Marked.is) in
    rw is c.log_mark-done.ensures.adds

pub returns-in-Marked-clause-view : goal.returns-in-Marked-clause-view
returns-in-Marked-clause-view g c =
    let same = ap (λ (s : Settings). quieted (said c.args.log.now) c.args.now s.quiet) (sym c.settings.ensures.value) in
    let is = marking_is (shown_net c.args.site.now.topo.now c.args.held.now) c.args.site.now.publisher c.args.site.now.broker c.args.now (held_view c.args.held.now) (said c.args.log.now) _ (same ∙ sym c.in-Ok.ensures.answer ∙ c.in-Marked.is) in
    rw is c.log_mark-done.ensures.view
