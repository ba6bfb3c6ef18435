use Rattle.std.proofs.Common.{rules, ◌≡◌, ℕ, ◌<◌, true, List, length, map, get_or, Some, None, Ok, IfOk, refl, sym, ap, ◌∙◌, subst}
use Rattle.std.specs.Prelude.{is_some}
use Rattle.std.proofs.lemmas.List.{length-map, get_or-map}
use Rattle.gr_topo.specs.Topology.{TopologyView}
use Rattle.gr_model.specs.Net.{is_host}
use Rattle.gr_model.specs.NetOf.{net_of}
use Rattle.gr_model.specs.Broker.{View}
use Rattle.gr_model.specs.World.{blank_view}
use Rattle.gr_broker_relay.specs.Kept.{IsKept}
use Rattle.gr_broker_relay.specs.declared.held.Held.{Held}
use Rattle.gr_broker_relay.specs.Held.{held_view}
use Rattle.gr_broker.specs.declared.outcome.Dropped.TheVariants as dropped
use Rattle.gr_broker.specs.Seen.{BrokerView, seen_broker, logs_of}
use Rattle.gr_broker.specs.Receipt.{receipt, receipt_of_fit, view_after, after_receipt, AnswersInto}
use Rattle.gr_broker.proofs.Reading.{stray_answer, fit_answer, part_is, put_back, on_ok, on_err, same_set, each_set, seen_set}
use Rattle.gr_broker.proofs.Joined.{hold_set}
use Rattle.gr_broker.proofs.Receipts.{receipt_joins, same_after}
use Rattle.gr_broker.proofs.receiving.take_at.Goals as goal

pub returns-then-not-fits-clause-says : goal.returns-then-not-fits-clause-says
returns-then-not-fits-clause-says c =
    let b : BrokerView = seen_broker c.args.seat.now.number c.args.seat.now.here.now c.args.seat.now.edges.now c.args.seat.now.positions.now c.args.held.now.items in
    subst (λ r. AnswersInto c.args.into.now (Some (dropped.Stray c.args.frame.now.head)) r) (sym (stray_answer (net_of c.args.seat.now.topo.now) c.args.now b c.args.frame.now (sym (c.if-not-fits.ensures {u = tt})))) refl

pub returns-then-not-fits-clause-after : goal.returns-then-not-fits-clause-after
returns-then-not-fits-clause-after c =
    let b : BrokerView = seen_broker c.args.seat.now.number c.args.seat.now.here.now c.args.seat.now.edges.now c.args.seat.now.positions.now c.args.held.now.items in
    ap (λ r. after_receipt (Ok c.args.frame.now) r b) (sym (stray_answer (net_of c.args.seat.now.topo.now) c.args.now b c.args.frame.now (sym (c.if-not-fits.ensures {u = tt}))))

-- a frame that fits is answered by the part of its publisher
receipt_is : (c : goal.After-held-1) → receipt (net_of c.args.seat.now.topo.now) c.args.now (seen_broker c.args.seat.now.number c.args.seat.now.here.now c.args.seat.now.edges.now c.args.seat.now.positions.now c.args.held.now.items) (Ok c.args.frame.now)
    ≡ receipt_of_fit (net_of c.site_at-site.result.topo.now) c.args.now (held_view c.index_mut.result.now) c.args.frame.now
receipt_is c =
    fit_answer (net_of c.args.seat.now.topo.now) c.args.now (seen_broker c.args.seat.now.number c.args.seat.now.here.now c.args.seat.now.edges.now c.args.seat.now.positions.now c.args.held.now.items) c.args.frame.now (held_view c.index_mut.result.now) (sym (c.if-not-fits.ensures {u = tt}))
    (part_is c.args.seat.now.number c.args.seat.now.here.now c.args.seat.now.edges.now c.args.seat.now.positions.now c.args.held.now.items c.args.frame.now.head.publisher c.index_mut.result.now (search rules) c.index_mut.ensures.value)
    ∙ ap (λ t. receipt_of_fit (net_of t) c.args.now (held_view c.index_mut.result.now) c.args.frame.now) (sym c.site_at-site.ensures.topo)

pub returns-clause-says : goal.returns-clause-says
returns-clause-says c = subst (λ r. IfOk c.take_frame.result (λ d. AnswersInto c.take_frame.new.into d r)) (sym (receipt_is c)) c.take_frame.ensures.says

pub returns-clause-after : goal.returns-clause-after
returns-clause-after c =
    on_ok c.take_frame.result (λ (e : held_view c.take_frame.new.held ≡ view_after (receipt_of_fit (net_of c.site_at-site.result.topo.now) c.args.now (held_view c.index_mut.result.now) c.args.frame.now) (held_view c.index_mut.result.now)).
    put_back c.args.seat.now.number c.args.seat.now.here.now c.args.seat.now.edges.now c.args.seat.now.positions.now c.args.held.now.items c.args.frame.now.head.publisher c.index_mut.result.now c.take_frame.new.held c.args.frame.now _
    refl (search rules) c.index_mut.ensures.value c.take_frame.ensures.part.elsewhere e
    ∙ ap (λ r. after_receipt (Ok c.args.frame.now) r (seen_broker c.args.seat.now.number c.args.seat.now.here.now c.args.seat.now.edges.now c.args.seat.now.positions.now c.args.held.now.items)) (sym (receipt_is c)))
    c.take_frame.ensures.view

pub returns-clause-err : goal.returns-clause-err
returns-clause-err c =
    on_err c.take_frame.result (λ (e : held_view c.take_frame.new.held ≡ held_view c.index_mut.result.now).
    same_set held_view c.args.held.now.items c.args.frame.now.head.publisher c.take_frame.new.held c.index_mut.result.now (search rules) (e ∙ ap held_view c.index_mut.ensures.value))
    c.take_frame.ensures.part.err

pub returns-clause-logs : goal.returns-clause-logs
returns-clause-logs c =
    same_set (λ x. x.log) c.args.held.now.items c.args.frame.now.head.publisher c.take_frame.new.held c.index_mut.result.now (search rules) (c.take_frame.ensures.part.elsewhere ∙ ap (λ x. x.log) c.index_mut.ensures.value)

-- what is kept of the frame's publisher is kept as it has to be
kept_here : (c : goal.After-held-1) → IsKept (net_of c.args.seat.now.topo.now) c.args.frame.now.head.publisher c.args.seat.now.number (held_view c.take_frame.new.held)
kept_here c =
    let a = subst (λ t. IsKept (net_of t) c.site_at-site.result.publisher c.site_at-site.result.broker (held_view c.take_frame.new.held)) c.site_at-site.ensures.topo c.take_frame.ensures.part.kept in
    let b = subst (λ (p : ℕ). IsKept (net_of c.args.seat.now.topo.now) p c.site_at-site.result.broker (held_view c.take_frame.new.held)) c.site_at-site.ensures.publisher a in
    subst (λ (n : ℕ). IsKept (net_of c.args.seat.now.topo.now) c.args.frame.now.head.publisher n (held_view c.take_frame.new.held)) c.site_at-site.ensures.broker b

pub returns-clause-kept : goal.returns-clause-kept
returns-clause-kept c =
    subst (λ (vs : List View). (p : ℕ) → p < length c.args.seat.now.topo.now.publishers → IsKept (net_of c.args.seat.now.topo.now) p c.args.seat.now.number (get_or vs p blank_view))
    (sym (seen_set held_view c.args.held.now.items c.args.frame.now.head.publisher c.take_frame.new.held))
    (each_set (λ p v. IsKept (net_of c.args.seat.now.topo.now) p c.args.seat.now.number v) (map held_view c.args.held.now.items) c.args.frame.now.head.publisher (held_view c.take_frame.new.held) blank_view (length c.args.seat.now.topo.now.publishers)
    (subst (λ n. c.args.frame.now.head.publisher < n) (sym (length-map c.args.held.now.items held_view)) (search rules)) c.requires.kept (kept_here c))

-- where its log is here, its joins are still held: at the host only what a child asks comes
pub returns-clause-joined : goal.returns-clause-joined
returns-clause-joined c =
    let held = c.args.held.now.items in
    let p = c.args.frame.now.head.publisher in
    let old = c.index_mut.result.now in
    let new = c.take_frame.new.held in
    let lt : p < length held = search rules in
    hold_set held p new lt c.requires.joined (λ l e.
    let is : get_or (logs_of held) p None ≡ Some l = get_or-map (λ (x : Held). x.log) held p old None lt ∙ ap (λ (x : Held). x.log) (sym c.index_mut.ensures.value) ∙ sym c.take_frame.ensures.part.elsewhere ∙ e in
    let seen_here : held_view old ≡ get_or (map held_view held) p blank_view = ap held_view c.index_mut.ensures.value ∙ sym (get_or-map held_view held p old blank_view lt) in
    let host : is_host (net_of c.args.seat.now.topo.now) p c.args.seat.now.number ≡ true = sym (c.requires.hosted p (search rules)) ∙ ap is_some is in
    same_after c.take_frame.result (held_view old) (held_view new) _ c.take_frame.ensures.view c.take_frame.ensures.part.err
    (subst (λ (t : TopologyView). (view_after (receipt_of_fit (net_of t) c.args.now (held_view old) c.args.frame.now) (held_view old)).joins ≡ (held_view old).joins) (sym c.site_at-site.ensures.topo)
    (receipt_joins c.args.seat.now.topo.now c.args.now c.args.seat.now.number (held_view old) c.args.frame.now c.brokers.ensures.topology (sym (c.if-not-fits.ensures {u = tt})) host))
    ∙ ap (λ (v : View). v.joins) seen_here ∙ c.requires.joined p l is)
