-- The part is put back into the broker
use Rattle.std.proofs.Common.{◌≡◌, ◌⊎◌, ℕ, ◌*◌, ◌<◌, true, length, set, Option, Some, None, Result, sym, subst, arith}
use Rattle.std.specs.Prelude.{◌↔◌, is_some, IsSome, IfOk, OnOk, IsErrOf}
use Rattle.gr_publog.specs.declared.record.LogFault.{LogFault}
use Rattle.gr_publog.specs.declared.record.LogFault.TheVariants as fault
use Rattle.gr_publog.specs.Views.{LogView, lanes_at, AwayFrom, IsReady}
use Rattle.gr_topo.specs.Topology.{TopologyView}
use Rattle.gr_model.specs.Net.{is_host}
use Rattle.gr_model.specs.NetOf.{net_of}
use Rattle.gr_model.specs.Broker.{Outcome as MachineOutcome}
use Rattle.gr_broker_relay.specs.declared.outcome.Outcome.{Outcome}
use Rattle.gr_broker_relay.specs.Kept.{IsKept}
use Rattle.gr_broker_relay.specs.Held.{held_view}
use Rattle.gr_broker_relay.specs.Told.{Tells}
use Rattle.gr_broker.specs.Seen.{log_said, is_broken, broker_at}
use Rattle.gr_broker.specs.Of.{IsBrokerOf, LogsStand}
use Rattle.gr_broker.specs.Told.{log_answer}
use Rattle.gr_broker.specs.Hosted.{wake_at, Wakes, WakeLeaves}
use Rattle.gr_broker.specs.Keeps.{UsesLane}
use Rattle.gr_broker.specs.Parts.{PartView, part_of, part_in, part_wake, part_mark_logs, part_cut, part_marked, part_woken, part_failed}
use Rattle.gr_broker.proofs.Joined.{Beside}
use Rattle.gr_broker.proofs.Woken.{moved, seen_part, seen_put, log_seen, broker_leaves, broker_fits, broker_stands, ok_of, on_ok_of, reopen_of, wakes_at}
use Rattle.gr_broker.proofs.waking.wake.Given.{Over}
use Rattle.gr_broker.proofs.waking.wake.Goals as goal

-- Before the part is woken: what holds of the broker holds of the part

back : (g : Over) (c : goal.After-index_mut g) (P : TopologyView → ℕ → ℕ → PartView → Type 0) → P c.args.seat.now.topo.now c.args.p c.args.seat.now.number (part_in (broker_at c.args.seat.now c.args.held.now.items) c.args.p) →
    P c.site_at-site.result.topo.now c.site_at-site.result.publisher c.site_at-site.result.broker (part_of c.index_mut.result.now)
back g c P k =
    subst (P c.site_at-site.result.topo.now c.site_at-site.result.publisher c.site_at-site.result.broker) (sym (seen_part c.args.seat.now c.args.held.now.items c.args.p c.index_mut.result.now c.requires.publisher c.index_mut.ensures.value))
    (subst (λ (n : ℕ). P c.site_at-site.result.topo.now c.site_at-site.result.publisher n (part_in (broker_at c.args.seat.now c.args.held.now.items) c.args.p)) (sym c.site_at-site.ensures.broker)
    (subst (λ (n : ℕ). P c.site_at-site.result.topo.now n c.args.seat.now.number (part_in (broker_at c.args.seat.now c.args.held.now.items) c.args.p)) (sym c.site_at-site.ensures.publisher)
    (subst (λ (t : TopologyView). P t c.args.p c.args.seat.now.number (part_in (broker_at c.args.seat.now c.args.held.now.items) c.args.p)) (sym c.site_at-site.ensures.topo) k)))

pub wake_part-answer-requires-clause-kept : goal.wake_part-answer-requires-clause-kept
wake_part-answer-requires-clause-kept g c =
    back g c (λ t q n y. IsKept (net_of t) q n y.view) (c.requires.fits.kept c.args.p (omega (arith, c.requires.publisher, c.requires.fits.views)))

pub wake_part-answer-requires-clause-hosted : goal.wake_part-answer-requires-clause-hosted
wake_part-answer-requires-clause-hosted g c =
    back g c (λ t q n y. is_some y.log ≡ is_host (net_of t) q n) (c.requires.fits.hosted c.args.p (omega (arith, c.requires.publisher, c.requires.fits.views)))

pub wake_part-answer-requires-clause-lanes : goal.wake_part-answer-requires-clause-lanes
wake_part-answer-requires-clause-lanes g c = back g c (λ t q n y. (l : LogView) → y.log ≡ Some l → l.lane ≡ 2 * q) (c.requires.fits.lanes c.args.p)

pub wake_part-answer-requires-clause-late : goal.wake_part-answer-requires-clause-late
wake_part-answer-requires-clause-late g c = back g c (λ t q n y. (l : LogView) → y.log ≡ Some l → l.state.late ≡ t.late) (c.requires.fits.late c.args.p)

pub wake_part-answer-requires-clause-joined : goal.wake_part-answer-requires-clause-joined
wake_part-answer-requires-clause-joined g c = back g c (λ t q n y. Beside y.view y.log) (c.requires.fits.joined c.args.p)

pub wake_part-answer-requires-clause-stands : goal.wake_part-answer-requires-clause-stands
wake_part-answer-requires-clause-stands g c = λ tells.
    back g c (λ t q n y. (l : LogView) → y.log ≡ Some l → IsReady l (lanes_at (g.D.Disk.lane_of c.args.disk.now) (2 * q))) (c.requires.stands tells c.args.p)

-- After it: what holds of the part and its answer holds of the broker

there : (g : Over) (c : goal.After-answer_at g) (P : TopologyView → ℕ → ℕ → PartView → Result Outcome LogFault → Type 0) →
    P c.site_at-site.result.topo.now c.site_at-site.result.publisher c.site_at-site.result.broker (part_of c.index_mut.result.now) c.wake_part-answer.result →
    P c.args.seat.now.topo.now c.args.p c.args.seat.now.number (part_in (broker_at c.args.seat.now c.args.held.now.items) c.args.p) (log_answer c.answer_at.result)
there g c P k =
    moved P c.site_at-site.ensures.topo c.site_at-site.ensures.publisher c.site_at-site.ensures.broker
    (seen_part c.args.seat.now c.args.held.now.items c.args.p c.index_mut.result.now c.requires.publisher c.index_mut.ensures.value) (sym c.answer_at.ensures) k

within : (g : Over) (c : goal.After-answer_at g) → c.args.p < length (broker_at c.args.seat.now c.args.held.now.items).logs
within g c = omega (arith, c.requires.publisher, c.requires.fits.views, c.requires.fits.logs)

pub returns-clause-told : goal.returns-clause-told
returns-clause-told g c =
    ok_of c.answer_at.result (λ told. Tells (wake_at c.args.seat.now.topo.now (broker_at c.args.seat.now c.args.held.now.items) c.args.p c.args.now) told)
    (there g c (λ t q n y a. IfOk a (λ told. Tells (part_wake t q n c.args.now y) told)) c.wake_part-answer.ensures.told)

pub returns-clause-leaves : goal.returns-clause-leaves
returns-clause-leaves g c =
    broker_leaves (broker_at c.args.seat.now c.args.held.now.items) c.args.p (within g c) c.args.seat.now.topo.now c.args.now
    (broker_at c.args.seat.now (set c.args.held.now.items c.args.p c.wake_part-answer.new.part)) (part_of c.wake_part-answer.new.part) (log_answer c.answer_at.result)
    (seen_put c.args.seat.now c.args.held.now.items c.args.p c.wake_part-answer.new.part)
    (there g c (λ t q n y a. WakeLeaves y (part_marked t q n c.args.now y) (part_woken t q n c.args.now y) (part_failed y) (part_failed (part_marked t q n c.args.now y)) (part_of c.wake_part-answer.new.part) a)
    c.wake_part-answer.ensures.leaves)

pub returns-clause-log : goal.returns-clause-log
returns-clause-log g c =
    let o : MachineOutcome = wake_at c.args.seat.now.topo.now (broker_at c.args.seat.now c.args.held.now.items) c.args.p c.args.now in
    on_ok_of c.answer_at.result _
    (subst (λ (z : Option LogView). OnOk (log_answer c.answer_at.result) (log_said z ≡ o.log)) (log_seen c.args.seat.now c.args.held.now.items c.args.p c.wake_part-answer.new.part (within g c))
    (there g c (λ t q n y a. OnOk a (let w : MachineOutcome = part_wake t q n c.args.now y in log_said c.wake_part-answer.new.part.log ≡ w.log)) c.wake_part-answer.ensures.log))

pub returns-clause-fits : goal.returns-clause-fits
returns-clause-fits g c =
    subst (IsBrokerOf c.args.seat.now.topo.now) (seen_put c.args.seat.now c.args.held.now.items c.args.p c.wake_part-answer.new.part)
    (broker_fits (broker_at c.args.seat.now c.args.held.now.items) c.args.p (within g c) c.args.seat.now.topo.now (part_of c.wake_part-answer.new.part) c.requires.fits
    (omega (arith, c.requires.publisher, c.requires.fits.views))
    (there g c (λ t q n y a. IsKept (net_of t) q n (held_view c.wake_part-answer.new.part)) c.wake_part-answer.ensures.kept)
    (there g c (λ t q n y a. is_some c.wake_part-answer.new.part.log ≡ is_some y.log) c.wake_part-answer.ensures.hosted)
    (there g c (λ t q n y a. (l : LogView) → c.wake_part-answer.new.part.log ≡ Some l → l.lane ≡ 2 * q) c.wake_part-answer.ensures.lanes)
    (there g c (λ t q n y a. (l : LogView) → c.wake_part-answer.new.part.log ≡ Some l → l.state.late ≡ t.late) c.wake_part-answer.ensures.late)
    c.wake_part-answer.ensures.joined)

pub returns-clause-lane : goal.returns-clause-lane
returns-clause-lane g c = λ tells.
    wakes_at (broker_at c.args.seat.now c.args.held.now.items) c.args.p _ _ _ (g.D.Disk.lane_of c.args.disk.now) (g.D.Disk.lane_of c.wake_part-answer.new.disk) (log_answer c.answer_at.result)
    (there g c (λ t q n y a. (l : LogView) → y.log ≡ Some l → Wakes l (part_mark_logs t c.args.now y) (part_cut t q n c.args.now y) t.settings.reclaim
    (lanes_at (g.D.Disk.lane_of c.args.disk.now) (2 * q)) (lanes_at (g.D.Disk.lane_of c.wake_part-answer.new.disk) (2 * q)) a) (c.wake_part-answer.ensures.lane tells))

pub returns-clause-reopen : goal.returns-clause-reopen
returns-clause-reopen g c =
    let same = reopen_of c.answer_at.result in
    let k = there g c (λ t q n y a. IsErrOf a fault.Reopen ↔ ((is_broken y.log ≡ true) × (IsSome (part_mark_logs t c.args.now y) ⊎ IsSome (part_cut t q n c.args.now y)))) c.wake_part-answer.ensures.reopen in
    (λ h. k.0 (same.0 h), λ h. same.1 (k.1 h))

pub returns-clause-below : goal.returns-clause-below
returns-clause-below g c = there g c (λ t q n y a. y.log ≡ None → c.wake_part-answer.new.disk ≡ c.args.disk.now) c.wake_part-answer.ensures.below

pub returns-clause-uses : goal.returns-clause-uses
returns-clause-uses g c =
    there g c (λ t q n y a. UsesLane g.D.Disk.tells g.D.Disk.faultless g.D.Disk.lane_of g.D.Disk.faults g.D.Disk.stops (2 * q) c.args.disk.now c.wake_part-answer.new.disk a) c.wake_part-answer.ensures.uses

pub returns-clause-stands : goal.returns-clause-stands
returns-clause-stands g c = λ tells.
    subst (LogsStand (g.D.Disk.lane_of c.wake_part-answer.new.disk)) (seen_put c.args.seat.now c.args.held.now.items c.args.p c.wake_part-answer.new.part)
    (broker_stands (broker_at c.args.seat.now c.args.held.now.items) c.args.p (within g c) (g.D.Disk.lane_of c.args.disk.now) (g.D.Disk.lane_of c.wake_part-answer.new.disk) (part_of c.wake_part-answer.new.part) (c.requires.stands tells)
    (there g c (λ t q n y a. (l : LogView) → c.wake_part-answer.new.part.log ≡ Some l → IsReady l (lanes_at (g.D.Disk.lane_of c.wake_part-answer.new.disk) (2 * q))) (c.wake_part-answer.ensures.stands tells))
    (there g c (λ t q n y a. (k : ℕ) → AwayFrom (2 * q) k → g.D.Disk.lane_of c.wake_part-answer.new.disk k ≡ g.D.Disk.lane_of c.args.disk.now k) (c.wake_part-answer.ensures.uses.disk.others tells)))
