-- At the host all is kept that was learned; below it the moments of final ticks are dropped, and events are forgotten.
use Rattle.std.proofs.Common.{◌≡◌, ℕ, true, false, refl, ap, ◌∙◌}
use Rattle.std.specs.Prelude.{if◌then◌else◌}
use Rattle.gr_know.specs.Values.{known_at, clash_K}
use Rattle.gr_curio.specs.Wants.{runs_of}
use Rattle.gr_model.specs.Net.{is_host, keeps_horizon, wants_with}
use Rattle.gr_model.specs.NetOf.{net_of}
use Rattle.gr_model.specs.Broker.{forgotten, max_tick}
use Rattle.gr_broker_relay.specs.Held.{held_view, shown_net}
use Rattle.gr_broker_relay.specs.Changes.{learned}
use Rattle.gr_broker_relay.proofs.Shown.{kept_plain}
use Rattle.gr_broker_relay.proofs.Applied.{Edits, edits_at, host_there, goes_below, host_view, host_kept, below_view, below_kept}
use Rattle.gr_broker_relay.proofs.learning.apply_learning.Goals as goal

edits_there : (c : goal.Then-site) → Edits (shown_net c.args.site.now.topo.now c.args.held.now) c.args.site.now.publisher c.args.site.now.broker c.args.piece.now (held_view c.args.held.now) c.args.changes.now (learned c.args.held.now.know.runs c.args.piece.now) c.take_in.new.know.runs (runs_of c.quench.new.wants) c.move_to.new.self
edits_there c =
    edits_at c.args.site.now c.args.piece.now (held_view c.args.held.now) c.args.changes.now c.take_in.new.know.runs (runs_of c.quench.new.wants) c.deref.result.now c.move_to.new.self
    c.requires.site c.requires.kept c.requires.changes c.len.ensures.canonical c.len.ensures.in_range c.len-2.ensures.canonical c.len-2.ensures.in_range c.move_to.ensures c.deref.ensures.value c.quench.ensures c.take_in.ensures

pub returns-then-site-clause-view : goal.returns-then-site-clause-view
returns-then-site-clause-view c = λ log.
    host_view (shown_net c.args.site.now.topo.now c.args.held.now) c.args.site.now.publisher c.args.site.now.broker c.args.piece.now (held_view c.args.held.now) c.args.changes.now (learned c.args.held.now.know.runs c.args.piece.now) c.take_in.new.know.runs (runs_of c.quench.new.wants) c.move_to.new.self (edits_there c)
    c.args.held.now.asks.runs (host_there c.args.site.now true c.requires.site c.if-site.true) refl log

pub returns-then-site-clause-part : goal.returns-then-site-clause-part
returns-then-site-clause-part c =
    let kept = kept_plain (net_of c.args.site.now.topo.now) (wants_with (net_of c.args.site.now.topo.now) c.args.held.now.joins) c.args.site.now.publisher c.args.site.now.broker _
    (host_kept (shown_net c.args.site.now.topo.now c.args.held.now) c.args.site.now.publisher c.args.site.now.broker c.args.piece.now (held_view c.args.held.now) c.args.changes.now (learned c.args.held.now.know.runs c.args.piece.now) c.take_in.new.know.runs (runs_of c.quench.new.wants) c.move_to.new.self (edits_there c)
    c.args.held.now.asks.runs (host_there c.args.site.now true c.requires.site c.if-site.true) refl) in
    record { kept = kept; elsewhere = refl }

edits_after : (c : goal.After-forget_below) → Edits (shown_net c.args.site.now.topo.now c.args.held.now) c.args.site.now.publisher c.args.site.now.broker c.args.piece.now (held_view c.args.held.now) c.args.changes.now (learned c.args.held.now.know.runs c.args.piece.now) c.take_in.new.know.runs (runs_of c.quench.new.wants) c.move_to.new.self
edits_after c =
    edits_at c.args.site.now c.args.piece.now (held_view c.args.held.now) c.args.changes.now c.take_in.new.know.runs (runs_of c.quench.new.wants) c.deref.result.now c.move_to.new.self
    c.requires.site c.requires.kept c.requires.changes c.len.ensures.canonical c.len.ensures.in_range c.len-2.ensures.canonical c.len-2.ensures.in_range c.move_to.ensures c.deref.ensures.value c.quench.ensures c.take_in.ensures

pub returns-clause-view : goal.returns-clause-view
returns-clause-view c = λ log.
    let net = shown_net c.args.site.now.topo.now c.args.held.now in
    let p = c.args.site.now.publisher in
    let b = c.args.site.now.broker in
    let below : is_host (net_of c.args.site.now.topo.now) c.args.site.now.publisher c.args.site.now.broker ≡ false = host_there c.args.site.now false c.requires.site c.if-site.false in
    below_view net p b c.args.piece.now (held_view c.args.held.now) c.args.changes.now (learned c.args.held.now.know.runs c.args.piece.now) c.take_in.new.know.runs (runs_of c.quench.new.wants) c.move_to.new.self (edits_after c)
    below (goes_below net p b ((t : ℕ) → clash_K (known_at c.args.held.now.know.runs t) (known_at c.args.piece.now t) ≡ false) below c.requires.goes) c.drop_final.new.asks.runs c.drop_each.new.asks.runs c.forget_below.new.know.runs
    c.len-3.ensures.canonical c.drop_final.ensures.dropped c.drop_each.ensures.dropped
    (c.forget_below.ensures.forgotten ∙ ap (λ x. forgotten net.cache (if keeps_horizon net p b then x else max_tick) c.take_in.new.know.runs) c.horizon.ensures.horizon)
    c.forget_below.ensures.keeps_final c.forget_below.ensures.canonical log

pub returns-clause-part : goal.returns-clause-part
returns-clause-part c =
    let net = shown_net c.args.site.now.topo.now c.args.held.now in
    let p = c.args.site.now.publisher in
    let b = c.args.site.now.broker in
    let below : is_host (net_of c.args.site.now.topo.now) c.args.site.now.publisher c.args.site.now.broker ≡ false = host_there c.args.site.now false c.requires.site c.if-site.false in
    let kept = kept_plain (net_of c.args.site.now.topo.now) (wants_with (net_of c.args.site.now.topo.now) c.args.held.now.joins) p b _
    (below_kept net p b c.args.piece.now (held_view c.args.held.now) c.args.changes.now (learned c.args.held.now.know.runs c.args.piece.now) c.take_in.new.know.runs (runs_of c.quench.new.wants) c.move_to.new.self (edits_after c)
    below (goes_below net p b ((t : ℕ) → clash_K (known_at c.args.held.now.know.runs t) (known_at c.args.piece.now t) ≡ false) below c.requires.goes) c.drop_final.new.asks.runs c.drop_each.new.asks.runs c.forget_below.new.know.runs
    c.len-3.ensures.canonical c.drop_final.ensures.dropped c.drop_each.ensures.dropped
    (c.forget_below.ensures.forgotten ∙ ap (λ x. forgotten net.cache (if keeps_horizon net p b then x else max_tick) c.take_in.new.know.runs) c.horizon.ensures.horizon)
    c.forget_below.ensures.keeps_final c.forget_below.ensures.canonical) in
    record { kept = kept; elsewhere = refl }
