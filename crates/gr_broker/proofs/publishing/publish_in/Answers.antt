use Rattle.std.proofs.Common.{◌≡◌, ℕ, ◌*◌, ◌<◌, length, map, get_or, set, List, Option, Some, None, OnOk, refl, sym, ap, ap₂, ◌∙◌, subst}
use Rattle.std.specs.Prelude.{is_some, IsSome}
use Rattle.std.proofs.lemmas.List.{length-map}
use Rattle.gr_publog.specs.Views.{LogView, lanes_at, AwayFrom, IsReady}
use Rattle.gr_publog.specs.Calls.{Appends, Leaves}
use Rattle.gr_pubend.specs.Answers.{published, event_of}
use Rattle.gr_model.specs.NetOf.{net_of}
use Rattle.gr_model.specs.Broker.{View, Outcome as MachineOutcome, publish, seen}
use Rattle.gr_model.specs.World.{blank_view}
use Rattle.gr_broker_relay.specs.Kept.{IsKept}
use Rattle.gr_broker_relay.specs.Held.{held_view}
use Rattle.gr_broker.specs.Seen.{BrokerView, log_in, view_in, log_said, with_logged, with_view, with_log, broken_at, logs_of, broker_at}
use Rattle.gr_broker.specs.Hosted.{publish_logs_at}
use Rattle.gr_broker.specs.Keeps.{UsesLane}
use Rattle.gr_broker.proofs.Reading.{seen_set, each_set, on_ok}
use Rattle.gr_broker.proofs.Parts.{part_view, part_log, leaves_exchanged, log_here, each_log, stays_some, stays_on, stays_late, there, said_after, appends_at}
use Rattle.gr_broker.proofs.Opening.{lanes_there}
use Rattle.gr_broker.proofs.Joined.{Beside, beside_said, beside_after, said_joins, publish_joins, hold_set}
use Rattle.gr_broker.proofs.publishing.publish_in.Given.{Over}
use Rattle.gr_broker.proofs.publishing.publish_in.Goals as goal

-- the publisher's part is one of the parts
below : (g : Over) (c : goal.After-held-1 g) → c.args.p < length c.args.held.now.items
below g c = subst (λ n. c.args.p < n) (sym c.requires.many) c.requires.publisher

-- its log is there, and on its lane
log_is : (g : Over) (c : goal.After-held-1 g) → c.index_mut.result.now.log ≡ log_in (broker_at c.args.seat.now c.args.held.now.items) c.args.p
log_is g c = part_log c.args.seat.now.number c.args.seat.now.here.now c.args.seat.now.edges.now c.args.seat.now.positions.now c.args.held.now.items c.args.p c.index_mut.result.now (below g c) c.index_mut.ensures.value

view_is : (g : Over) (c : goal.After-held-1 g) → held_view c.index_mut.result.now ≡ view_in (broker_at c.args.seat.now c.args.held.now.items) c.args.p
view_is g c = part_view c.args.seat.now.number c.args.seat.now.here.now c.args.seat.now.edges.now c.args.seat.now.positions.now c.args.held.now.items c.args.p c.index_mut.result.now (below g c) c.index_mut.ensures.value

has_log : (g : Over) (c : goal.After-held-1 g) → IsSome c.index_mut.result.now.log
has_log g c = subst (λ o. IsSome o) (sym (log_is g c)) c.requires.here

on_lane : (g : Over) (c : goal.After-held-1 g) (l : LogView) → c.index_mut.result.now.log ≡ Some l → l.lane ≡ 2 * c.args.p
on_lane g c l e = c.requires.lanes c.args.p l (sym (log_is g c) ∙ e)

-- what the call keeps of it, by the seat
kept_view : (g : Over) (c : goal.After-held-1 g) → OnOk c.publish_part.result (let o : MachineOutcome = (publish (seen (net_of c.args.seat.now.topo.now) (held_view c.index_mut.result.now)) c.args.p c.args.seat.now.number c.args.now c.args.number c.args.event.now (held_view c.index_mut.result.now) (log_said c.index_mut.result.now.log)) in held_view c.publish_part.new.part ≡ o.view)
kept_view g c =
    subst (λ t. OnOk c.publish_part.result (let o : MachineOutcome = publish (seen (net_of t) (held_view c.index_mut.result.now)) c.args.p c.args.seat.now.number c.args.now c.args.number c.args.event.now (held_view c.index_mut.result.now) (log_said c.index_mut.result.now.log) in held_view c.publish_part.new.part ≡ o.view)) c.site_at-site.ensures.topo
    (subst (λ (n : ℕ). OnOk c.publish_part.result (let o : MachineOutcome = publish (seen (net_of c.site_at-site.result.topo.now) (held_view c.index_mut.result.now)) c.args.p n c.args.now c.args.number c.args.event.now (held_view c.index_mut.result.now) (log_said c.index_mut.result.now.log) in held_view c.publish_part.new.part ≡ o.view)) c.site_at-site.ensures.broker
    (subst (λ (n : ℕ). OnOk c.publish_part.result (let o : MachineOutcome = publish (seen (net_of c.site_at-site.result.topo.now) (held_view c.index_mut.result.now)) n c.site_at-site.result.broker c.args.now c.args.number c.args.event.now (held_view c.index_mut.result.now) (log_said c.index_mut.result.now.log) in held_view c.publish_part.new.part ≡ o.view)) c.site_at-site.ensures.publisher
    c.publish_part.ensures.view))

kept_here : (g : Over) (c : goal.After-held-1 g) → IsKept (net_of c.args.seat.now.topo.now) c.args.p c.args.seat.now.number (held_view c.publish_part.new.part)
kept_here g c =
    subst (λ t. IsKept (net_of t) c.args.p c.args.seat.now.number (held_view c.publish_part.new.part)) c.site_at-site.ensures.topo
    (subst (λ (n : ℕ). IsKept (net_of c.site_at-site.result.topo.now) c.args.p n (held_view c.publish_part.new.part)) c.site_at-site.ensures.broker
    (subst (λ (n : ℕ). IsKept (net_of c.site_at-site.result.topo.now) n c.site_at-site.result.broker (held_view c.publish_part.new.part)) c.site_at-site.ensures.publisher c.publish_part.ensures.kept))

pub publish_part-requires-clause-stands : goal.publish_part-requires-clause-stands
publish_part-requires-clause-stands g c t l e =
    let e' = sym (part_log c.args.seat.now.number c.args.seat.now.here.now c.args.seat.now.edges.now c.args.seat.now.positions.now c.args.held.now.items c.args.p c.index_mut.result.now (subst (λ n. c.args.p < n) (sym c.requires.many) c.requires.publisher) c.index_mut.ensures.value) ∙ e in
    subst (λ (n : ℕ). IsReady l (lanes_at (g.D.Disk.lane_of c.args.disk.now) n)) (sym (c.requires.lanes c.args.p l e')) (c.requires.stands t c.args.p l e')

pub returns-clause-leaves : goal.returns-clause-leaves
returns-clause-leaves g c =
    let o : MachineOutcome = (publish (seen (net_of c.args.seat.now.topo.now) (held_view c.index_mut.result.now)) c.args.p c.args.seat.now.number c.args.now c.args.number c.args.event.now (held_view c.index_mut.result.now) (log_said c.index_mut.result.now.log)) in
    let s = leaves_exchanged c.args.seat.now.number c.args.seat.now.here.now c.args.seat.now.edges.now c.args.seat.now.positions.now c.args.held.now.items c.args.p c.index_mut.result.now (below g c) c.index_mut.ensures.value c.publish_part.result c.publish_part.new.part (with_logged c.index_mut.result.now.log (event_of (published (log_said c.index_mut.result.now.log) c.args.number c.args.event.now c.args.now) c.args.number c.args.event.now)) o.view c.publish_part.ensures.log (kept_view g c) c.publish_part.ensures.err in
    subst (λ (after : BrokerView). Leaves (broker_at c.args.seat.now c.args.held.now.items) after (broken_at (broker_at c.args.seat.now c.args.held.now.items) c.args.p) (broker_at c.args.seat.now (set c.args.held.now.items c.args.p c.publish_part.new.part)) c.publish_part.result)
    (ap₂ (λ (l : Option LogView) (v : View). let x : MachineOutcome = publish (seen (net_of c.args.seat.now.topo.now) v) c.args.p c.args.seat.now.number c.args.now c.args.number c.args.event.now v (log_said l) in
    with_view (with_log (broker_at c.args.seat.now c.args.held.now.items) c.args.p (with_logged l (event_of (published (log_said l) c.args.number c.args.event.now c.args.now) c.args.number c.args.event.now))) c.args.p x.view) (log_is g c) (view_is g c))
    s

pub returns-clause-log : goal.returns-clause-log
returns-clause-log g c =
    on_ok c.publish_part.result (λ (a : c.publish_part.new.part.log ≡ with_logged c.index_mut.result.now.log (event_of (published (log_said c.index_mut.result.now.log) c.args.number c.args.event.now c.args.now) c.args.number c.args.event.now)).
    ap log_said (log_here c.args.seat.now.number c.args.seat.now.here.now c.args.seat.now.edges.now c.args.seat.now.positions.now c.args.held.now.items c.args.p c.index_mut.result.now (below g c) c.index_mut.ensures.value c.publish_part.new.part ∙ a)
    ∙ said_after (seen (net_of c.args.seat.now.topo.now) (held_view c.index_mut.result.now)) c.args.p c.args.seat.now.number c.args.now c.args.number c.args.event.now (held_view c.index_mut.result.now) c.index_mut.result.now.log (has_log g c)
    ∙ ap₂ (λ (l : Option LogView) (v : View). let x : MachineOutcome = publish (seen (net_of c.args.seat.now.topo.now) v) c.args.p c.args.seat.now.number c.args.now c.args.number c.args.event.now v (log_said l) in x.log) (log_is g c) (view_is g c))
    c.publish_part.ensures.log.ok

pub returns-clause-kept : goal.returns-clause-kept
returns-clause-kept g c =
    subst (λ (vs : List View). (q : ℕ) → q < length c.args.seat.now.topo.now.publishers → IsKept (net_of c.args.seat.now.topo.now) q c.args.seat.now.number (get_or vs q blank_view))
    (sym (seen_set held_view c.args.held.now.items c.args.p c.publish_part.new.part))
    (each_set (λ q v. IsKept (net_of c.args.seat.now.topo.now) q c.args.seat.now.number v) (map held_view c.args.held.now.items) c.args.p (held_view c.publish_part.new.part) blank_view (length c.args.seat.now.topo.now.publishers)
    (subst (λ n. c.args.p < n) (sym (length-map c.args.held.now.items held_view)) (below g c)) c.requires.kept (kept_here g c))

pub returns-clause-hosted : goal.returns-clause-hosted
returns-clause-hosted g c =
    each_log c.args.seat.now.number c.args.seat.now.here.now c.args.seat.now.edges.now c.args.seat.now.positions.now c.args.held.now.items c.args.p c.index_mut.result.now (below g c) c.index_mut.ensures.value (λ q o. is_some o ≡ is_some (get_or (logs_of c.args.held.now.items) q None)) c.publish_part.new.part (λ q n. refl)
    (stays_some c.publish_part.result c.index_mut.result.now.log c.publish_part.new.part.log (event_of (published (log_said c.index_mut.result.now.log) c.args.number c.args.event.now c.args.now) c.args.number c.args.event.now) c.publish_part.ensures.log ∙ ap is_some (log_is g c))

pub returns-clause-lanes : goal.returns-clause-lanes
returns-clause-lanes g c =
    each_log c.args.seat.now.number c.args.seat.now.here.now c.args.seat.now.edges.now c.args.seat.now.positions.now c.args.held.now.items c.args.p c.index_mut.result.now (below g c) c.index_mut.ensures.value (λ q o. (l : LogView) → o ≡ Some l → l.lane ≡ 2 * q) c.publish_part.new.part (λ q n. c.requires.lanes q)
    (stays_on (2 * c.args.p) c.publish_part.result c.index_mut.result.now.log c.publish_part.new.part.log (event_of (published (log_said c.index_mut.result.now.log) c.args.number c.args.event.now c.args.now) c.args.number c.args.event.now) (on_lane g c) c.publish_part.ensures.log)

pub returns-clause-late : goal.returns-clause-late
returns-clause-late g c =
    each_log c.args.seat.now.number c.args.seat.now.here.now c.args.seat.now.edges.now c.args.seat.now.positions.now c.args.held.now.items c.args.p c.index_mut.result.now (below g c) c.index_mut.ensures.value (λ q o. (l : LogView) → o ≡ Some l → l.state.late ≡ c.args.seat.now.topo.now.late) c.publish_part.new.part (λ q n. c.requires.late q)
    (stays_late c.args.seat.now.topo.now.late c.publish_part.result c.index_mut.result.now.log c.publish_part.new.part.log (event_of (published (log_said c.index_mut.result.now.log) c.args.number c.args.event.now c.args.now) c.args.number c.args.event.now) (λ l e. c.requires.late c.args.p l (sym (log_is g c) ∙ e)) c.publish_part.ensures.log)

-- the joins that are held beside its log
beside_log : (g : Over) (c : goal.After-held-1 g) → Beside (held_view c.index_mut.result.now) c.index_mut.result.now.log
beside_log g c l e = ap (λ (v : View). v.joins) (view_is g c) ∙ c.requires.joined c.args.p l (sym (log_is g c) ∙ e)

beside_new : (g : Over) (c : goal.After-held-1 g) → Beside (held_view c.publish_part.new.part) c.publish_part.new.part.log
beside_new g c =
    let net = seen (net_of c.args.seat.now.topo.now) (held_view c.index_mut.result.now) in
    let o : MachineOutcome = publish net c.args.p c.args.seat.now.number c.args.now c.args.number c.args.event.now (held_view c.index_mut.result.now) (log_said c.index_mut.result.now.log) in
    let next : Option LogView = with_logged c.index_mut.result.now.log (event_of (published (log_said c.index_mut.result.now.log) c.args.number c.args.event.now c.args.now) c.args.number c.args.event.now) in
    let said = said_after net c.args.p c.args.seat.now.number c.args.now c.args.number c.args.event.now (held_view c.index_mut.result.now) c.index_mut.result.now.log (has_log g c) in
    let holds = publish_joins net c.args.p c.args.seat.now.number c.args.now c.args.number c.args.event.now (held_view c.index_mut.result.now) (log_said c.index_mut.result.now.log) (said_joins (held_view c.index_mut.result.now) c.index_mut.result.now.log (has_log g c) (beside_log g c)) in
    beside_after c.publish_part.result (held_view c.index_mut.result.now) (held_view c.publish_part.new.part) o.view c.index_mut.result.now.log c.publish_part.new.part.log next
    (beside_log g c) (beside_said o.view next o.log said holds) c.publish_part.ensures.log (kept_view g c) c.publish_part.ensures.err

pub returns-clause-joined : goal.returns-clause-joined
returns-clause-joined g c = hold_set c.args.held.now.items c.args.p c.publish_part.new.part (below g c) c.requires.joined (beside_new g c)

pub returns-clause-uses : goal.returns-clause-uses
returns-clause-uses g c =
    there c.index_mut.result.now.log (has_log g c) (λ l e. subst (λ (n : ℕ). UsesLane g.D.Disk.tells g.D.Disk.faultless g.D.Disk.lane_of g.D.Disk.faults g.D.Disk.stops n c.args.disk.now c.publish_part.new.disk c.publish_part.result)
    (on_lane g c l e) (c.publish_part.ensures.uses l e))

-- no lane of another publisher is touched
others_stay : (g : Over) (c : goal.After-held-1 g) → g.D.Disk.tells → (n : ℕ) → AwayFrom (2 * c.args.p) n → g.D.Disk.lane_of c.publish_part.new.disk n ≡ g.D.Disk.lane_of c.args.disk.now n
others_stay g c t n away =
    there c.index_mut.result.now.log (has_log g c) (λ m em. let k = c.publish_part.ensures.uses m em in k.disk.others t n (subst (λ (i : ℕ). AwayFrom i n) (sym (on_lane g c m em)) away))

pub returns-clause-stands : goal.returns-clause-stands
returns-clause-stands g c t =
    let before = g.D.Disk.lane_of c.args.disk.now in
    let after = g.D.Disk.lane_of c.publish_part.new.disk in
    each_log c.args.seat.now.number c.args.seat.now.here.now c.args.seat.now.edges.now c.args.seat.now.positions.now c.args.held.now.items c.args.p c.index_mut.result.now (below g c) c.index_mut.ensures.value (λ q o. (l : LogView) → o ≡ Some l → IsReady l (lanes_at after (2 * q))) c.publish_part.new.part
    (λ q n l e. subst (IsReady l) (sym (lanes_there before after c.args.p q (others_stay g c t) (λ s. n (sym s)))) (c.requires.stands t q l e))
    (λ l e. subst (λ (n : ℕ). IsReady l (lanes_at after n)) (stays_on (2 * c.args.p) c.publish_part.result c.index_mut.result.now.log c.publish_part.new.part.log (event_of (published (log_said c.index_mut.result.now.log) c.args.number c.args.event.now c.args.now) c.args.number c.args.event.now) (on_lane g c) c.publish_part.ensures.log l e) (c.publish_part.ensures.stands t l e))

pub returns-clause-lane : goal.returns-clause-lane
returns-clause-lane g c t =
    let before = g.D.Disk.lane_of c.args.disk.now in
    let after = g.D.Disk.lane_of c.publish_part.new.disk in
    appends_at (broker_at c.args.seat.now c.args.held.now.items) c.args.p (publish_logs_at (broker_at c.args.seat.now c.args.held.now.items) c.args.p c.args.now c.args.number c.args.event.now) before after c.publish_part.result (λ l e.
    subst (λ (o : Option LogView). Appends l (event_of (published (log_said o) c.args.number c.args.event.now c.args.now) c.args.number c.args.event.now) (lanes_at before (2 * c.args.p)) (lanes_at after (2 * c.args.p)) c.publish_part.result) (log_is g c)
    (subst (λ (n : ℕ). Appends l (event_of (published (log_said c.index_mut.result.now.log) c.args.number c.args.event.now c.args.now) c.args.number c.args.event.now) (lanes_at before n) (lanes_at after n) c.publish_part.result) (on_lane g c l (log_is g c ∙ e)) (c.publish_part.ensures.lane t l (log_is g c ∙ e))))
