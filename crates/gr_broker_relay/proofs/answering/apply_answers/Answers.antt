use Rattle.std.proofs.Common.{◌≡◌, ◌<◌, true, false, length, refl, sym, ap, ◌∙◌, subst}
use Rattle.std.specs.Prelude.{if◌then◌else◌}
use Rattle.gr_curio.specs.Wants.{runs_of}
use Rattle.gr_model.specs.Net.{Net, is_host, keeps_horizon, wants_with}
use Rattle.gr_model.specs.NetOf.{net_of}
use Rattle.gr_model.specs.Broker.{View, forgotten, max_tick}
use Rattle.gr_broker_relay.specs.declared.held.Held.{Held}
use Rattle.gr_broker_relay.specs.declared.site.Site.{Site}
use Rattle.gr_broker_relay.specs.Held.{held_view, shown_net}
use Rattle.gr_broker_relay.specs.Kept.{IsKept}
use Rattle.gr_broker_relay.proofs.Shown.{kept_shown, kept_plain}
use Rattle.gr_broker_relay.proofs.InPlace.{IsApplied, applied_host, applied_below}
use Rattle.gr_broker_relay.proofs.answering.apply_answers.Goals as goal

-- what each call needs, at the net that the held joins show and at the topology's own
shown_kept : (s : Site) (h : Held) → IsKept (net_of s.topo.now) s.publisher s.broker (held_view h) → IsKept (shown_net s.topo.now h) s.publisher s.broker (held_view h)
shown_kept s h k = kept_shown (net_of s.topo.now) (wants_with (net_of s.topo.now) h.joins) s.publisher s.broker (held_view h) k

plain_kept : (s : Site) (h : Held) (v : View) → IsKept (shown_net s.topo.now h) s.publisher s.broker v → IsKept (net_of s.topo.now) s.publisher s.broker v
plain_kept s h v k = kept_plain (net_of s.topo.now) (wants_with (net_of s.topo.now) h.joins) s.publisher s.broker v k

-- what is in place at the host, and below it
at_host : (c : goal.Then-site) → IsApplied (shown_net c.args.site.now.topo.now c.args.held.now) c.args.site.now.publisher c.args.site.now.broker c.args.now c.args.i c.args.piece.now (held_view c.args.held.now)
    (held_view (record { know = c.finish_each.new.know; wants = c.take_out.new.self; asks = c.args.held.now.asks; horizon = c.args.held.now.horizon; log = c.args.held.now.log; joins = c.args.held.now.joins }))
at_host c =
    let s = c.args.site.now in
    let held = c.args.held.now in
    let here : c.args.i < length (runs_of held.wants) = subst (λ n. c.args.i < n) (sym c.requires.kept.wants) c.requires.child in
    let host : is_host (net_of s.topo.now) s.publisher s.broker ≡ true = sym (ap (λ x. x.host) c.requires.site.branch) ∙ c.if-site.true in
    applied_host (shown_net s.topo.now held) s.publisher s.broker c.args.now c.args.i c.args.piece.now (held_view held) c.args.answers.now c.requires.answers (shown_kept c.args.site.now held c.requires.kept) here
    c.len.ensures.canonical c.len-2.ensures.canonical c.len-4.ensures.canonical
    (runs_of c.raise_ready.new.self) (runs_of c.take_out.new.self) c.finish_each.new.know.runs
    c.raise_ready.ensures.raised c.raise_ready.ensures.others c.take_out.ensures.taken c.take_out.ensures.others c.finish_each.ensures.finished host

below_host : (c : goal.After-forget_below) → IsApplied (shown_net c.args.site.now.topo.now c.args.held.now) c.args.site.now.publisher c.args.site.now.broker c.args.now c.args.i c.args.piece.now (held_view c.args.held.now)
    (held_view (record { know = c.forget_below.new.know; wants = c.take_out.new.self; asks = c.drop_each.new.asks; horizon = c.args.held.now.horizon; log = c.args.held.now.log; joins = c.args.held.now.joins }))
below_host c =
    let s = c.args.site.now in
    let held = c.args.held.now in
    let net : Net = shown_net s.topo.now held in
    let here : c.args.i < length (runs_of held.wants) = subst (λ n. c.args.i < n) (sym c.requires.kept.wants) c.requires.child in
    let below : is_host net s.publisher s.broker ≡ false = sym (ap (λ x. x.host) c.requires.site.branch) ∙ c.if-site.false in
    applied_below net s.publisher s.broker c.args.now c.args.i c.args.piece.now (held_view held) c.args.answers.now c.requires.answers (shown_kept c.args.site.now held c.requires.kept) here
    c.len.ensures.canonical c.len-2.ensures.canonical c.len-4.ensures.canonical
    (runs_of c.raise_ready.new.self) (runs_of c.take_out.new.self) c.finish_each.new.know.runs
    c.raise_ready.ensures.raised c.raise_ready.ensures.others c.take_out.ensures.taken c.take_out.ensures.others c.finish_each.ensures.finished below
    c.forget_below.new.know.runs c.asked_ready.new.self.runs c.drop_each.new.asks.runs c.len-3.ensures.canonical c.forget_below.ensures.canonical
    (c.forget_below.ensures.forgotten ∙ ap (λ h. forgotten net.cache (if keeps_horizon net s.publisher s.broker then h else max_tick) c.finish_each.new.know.runs) c.horizon.ensures.horizon)
    c.forget_below.ensures.keeps_final c.asked_ready.ensures.asked c.drop_each.ensures.dropped

pub returns-then-site-clause-view : goal.returns-then-site-clause-view
returns-then-site-clause-view c = (at_host c).view

pub returns-then-site-clause-part : goal.returns-then-site-clause-part
returns-then-site-clause-part c = record { kept = plain_kept c.args.site.now c.args.held.now _ (at_host c).kept; elsewhere = refl }

pub returns-clause-view : goal.returns-clause-view
returns-clause-view c = (below_host c).view

pub returns-clause-part : goal.returns-clause-part
returns-clause-part c = record { kept = plain_kept c.args.site.now c.args.held.now _ (below_host c).kept; elsewhere = refl }
