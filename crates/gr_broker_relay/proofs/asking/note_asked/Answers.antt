use Rattle.std.proofs.Common.{ap, ◌∙◌}
use Rattle.std.specs.Prelude.{if◌then◌else◌}
use Rattle.gr_model.specs.Net.{keeps_horizon}
use Rattle.gr_model.specs.Broker.{forgotten, max_tick}
use Rattle.gr_broker_relay.specs.Held.{held_view, shown_net}
use Rattle.gr_broker_relay.proofs.Asked.{asked_view}
use Rattle.gr_broker_relay.proofs.asking.note_asked.Goals as goal

pub returns-clause-view : goal.returns-clause-view
returns-clause-view c =
    let s = c.args.site.now in
    let h = c.args.held.now in
    let net = shown_net s.topo.now h in
    asked_view net s.publisher s.broker c.args.now (held_view h) c.args.asked.now c.forget_below.new.know.runs c.asked_ready.new.self.runs
    c.requires.below c.len.ensures.canonical c.len-2.ensures.canonical c.len-3.ensures.canonical c.forget_below.ensures.canonical
    (c.requires.kept.dropped c.requires.below) c.requires.unknown
    (c.forget_below.ensures.forgotten ∙ ap (λ upto. forgotten net.cache (if keeps_horizon net s.publisher s.broker then upto else max_tick) h.know.runs) c.horizon-horizon.ensures.horizon)
    c.asked_ready.ensures.asked
