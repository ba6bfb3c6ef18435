use Rattle.std.proofs.Common.{◌≡◌, ◌++◌, List, sym, ap, ◌∙◌, subst, OnOk, refl}
use Rattle.std.specs.Prelude.{flat_map}
use Rattle.gr_subend.specs.Deliveries.{items}
use Rattle.gr_model.specs.declared.report.Report.{Report}
use Rattle.gr_broker_relay.specs.Held.{shown_net}
use Rattle.gr_broker_relay.specs.Handed.{told_to, lines_to}
use Rattle.gr_broker_relay.specs.Changes.{learned}
use Rattle.gr_broker_relay.proofs.Learned.{joined_gives}
use Rattle.gr_broker_relay.proofs.Handing.{none_told, some_told}
use Rattle.gr_broker_relay.proofs.learning.deliver.Goals as goal

pub returns-then-to-horizon : goal.returns-then-to-horizon
returns-then-to-horizon c = none_told (shown_net c.args.site.now.topo.now c.args.held.now) c.args.site.now.publisher c.args.site.now.broker c.args.held.now.horizon c.args.to _ c.args.reports.now c.args.reports.now (c.if-to-horizon.true ∙ c.horizon.ensures.horizon) refl

pub returns : goal.returns
returns c =
    let told : flat_map (told_to (shown_net c.args.site.now.topo.now c.args.held.now) c.args.site.now.publisher c.args.to (items c.as_slice.result.now)) c.args.site.now.here.now ≡ lines_to (shown_net c.args.site.now.topo.now c.args.held.now) c.args.site.now.publisher c.args.site.now.broker c.args.held.now.horizon c.args.to (learned c.args.held.now.know.runs c.args.piece.now) =
    some_told (shown_net c.args.site.now.topo.now c.args.held.now) c.args.site.now.publisher c.args.site.now.broker c.args.held.now.horizon c.args.to (learned c.args.held.now.know.runs c.args.piece.now) c.as_slice.result.now c.args.site.now.here.now
    (λ e. c.if-to-horizon.false (e ∙ sym c.horizon.ensures.horizon))
    (ap items c.as_slice.ensures ∙ c.in_ok-deliveries.ensures (learned c.args.held.now.know.runs c.args.piece.now) (joined_gives c.args.held.now.know.runs c.args.piece.now c.len.ensures.canonical c.len.ensures.in_range c.len-2.ensures.canonical c.len-2.ensures.in_range))
    c.requires.site.here in
    subst (λ (xs : List Report). OnOk c.hand_over.result (c.hand_over.new.reports ≡ c.args.reports.now ++ xs)) told c.hand_over.ensures
