-- The log is taken out and put back
use Rattle.std.proofs.Common.{◌≡◌, ℕ, ◌*◌, Some, sym, ap, ◌∙◌, subst}
use Rattle.gr_publog.specs.Views.{LogView, lanes_at, IsReady}
use Rattle.gr_broker_relay.specs.Held.{held_view}
use Rattle.gr_broker.specs.Seen.{HasJoins}
use Rattle.gr_broker.specs.Keeps.{UsesLane}
use Rattle.gr_broker.specs.Parts.{part_of, part_with}
use Rattle.gr_broker.proofs.Woken.{some_is, here_leaves, here_log, here_lane, here_late, here_joined, here_told, here_wakes, here_reopen}
use Rattle.gr_broker.proofs.waking.wake_here.Given.{Over}
use Rattle.gr_broker.proofs.waking.wake_here.Goals as goal

log_is : (g : Over) (c : goal.Joined-part g) → c.args.part.now.log ≡ Some c.in-Some.log
log_is g c = sym c.take.ensures.value ∙ c.in-Some.is

part_is : (g : Over) (c : goal.Joined-part g) → part_of c.args.part.now ≡ part_with (held_view c.args.part.now) (Some c.in-Some.log)
part_is g c = ap (part_with (held_view c.args.part.now)) (log_is g c)

old_lane : (g : Over) (c : goal.Joined-part g) → c.in-Some.log.lane ≡ 2 * c.args.site.now.publisher
old_lane g c = c.requires.lanes c.in-Some.log (log_is g c)

new_lane : (g : Over) (c : goal.Joined-part g) → c.wake_host-answer.new.log.lane ≡ 2 * c.args.site.now.publisher
new_lane g c =
    let s = c.args.site.now in
    here_lane s.topo.now s.publisher s.broker c.args.now (held_view c.args.part.now) (held_view c.wake_host-answer.new.held) c.in-Some.log c.wake_host-answer.new.log
    c.wake_host-answer.result c.wake_host-answer.ensures.leaves
    ∙ old_lane g c

pub returns-clause-told : goal.returns-clause-told
returns-clause-told g c =
    let s = c.args.site.now in
    here_told s.topo.now s.publisher s.broker c.args.now (held_view c.args.part.now) (held_view c.wake_host-answer.new.held) c.in-Some.log c.wake_host-answer.new.log
    (part_of c.args.part.now) c.wake_host-answer.result (part_is g c) c.requires.at.host c.wake_host-answer.ensures.told

pub returns-clause-leaves : goal.returns-clause-leaves
returns-clause-leaves g c =
    let s = c.args.site.now in
    here_leaves s.topo.now s.publisher s.broker c.args.now (held_view c.args.part.now) (held_view c.wake_host-answer.new.held) c.in-Some.log c.wake_host-answer.new.log
    (part_of c.args.part.now) c.wake_host-answer.result (part_is g c) c.requires.at.host c.wake_host-answer.ensures.leaves

pub returns-clause-log : goal.returns-clause-log
returns-clause-log g c =
    let s = c.args.site.now in
    here_log s.topo.now s.publisher s.broker c.args.now (held_view c.args.part.now) (held_view c.wake_host-answer.new.held) c.in-Some.log c.wake_host-answer.new.log
    (part_of c.args.part.now) c.wake_host-answer.result (part_is g c) c.requires.at.host c.settings.ensures.topology.sound.settings.quiet.0 c.is_broken.ensures.state c.wake_host-answer.ensures.leaves

pub returns-clause-lanes : goal.returns-clause-lanes
returns-clause-lanes g c = λ l e. ap (λ (y : LogView). y.lane) (sym (some_is e)) ∙ new_lane g c

pub returns-clause-late : goal.returns-clause-late
returns-clause-late g c = λ l e.
    let s = c.args.site.now in
    ap (λ (y : LogView). y.state.late) (sym (some_is e))
    ∙ here_late s.topo.now s.publisher s.broker c.args.now (held_view c.args.part.now) (held_view c.wake_host-answer.new.held) c.in-Some.log c.wake_host-answer.new.log
    c.wake_host-answer.result c.wake_host-answer.ensures.leaves
    ∙ c.requires.late c.in-Some.log (log_is g c)

pub returns-clause-joined : goal.returns-clause-joined
returns-clause-joined g c = λ l e.
    let s = c.args.site.now in
    subst (λ (y : LogView). HasJoins (held_view c.wake_host-answer.new.held) y) (some_is e)
    (here_joined s.topo.now s.publisher s.broker c.args.now (held_view c.args.part.now) (held_view c.wake_host-answer.new.held) c.in-Some.log c.wake_host-answer.new.log
    c.wake_host-answer.result c.wake_host-answer.ensures.leaves (c.requires.joined c.in-Some.log (log_is g c)))

pub returns-clause-lane : goal.returns-clause-lane
returns-clause-lane g c = λ tells l e.
    let s = c.args.site.now in
    here_wakes s.topo.now s.publisher s.broker c.args.now (held_view c.args.part.now) (held_view c.wake_host-answer.new.held) c.in-Some.log c.wake_host-answer.new.log
    (part_of c.args.part.now) c.wake_host-answer.result (g.D.Disk.lane_of c.args.disk.now) (g.D.Disk.lane_of c.wake_host-answer.new.disk) l (2 * s.publisher)
    (part_is g c) e (old_lane g c) (c.wake_host-answer.ensures.lane tells)

pub returns-clause-reopen : goal.returns-clause-reopen
returns-clause-reopen g c =
    let s = c.args.site.now in
    here_reopen s.topo.now s.publisher s.broker c.args.now (held_view c.args.part.now) (held_view c.wake_host-answer.new.held) c.in-Some.log c.wake_host-answer.new.log
    (part_of c.args.part.now) c.wake_host-answer.result (part_is g c) c.wake_host-answer.ensures.reopen

pub returns-clause-uses : goal.returns-clause-uses
returns-clause-uses g c =
    subst (λ (n : ℕ). UsesLane g.D.Disk.tells g.D.Disk.faultless g.D.Disk.lane_of g.D.Disk.faults g.D.Disk.stops n c.args.disk.now c.wake_host-answer.new.disk c.wake_host-answer.result)
    (old_lane g c) c.wake_host-answer.ensures.uses.lane

pub returns-clause-stands : goal.returns-clause-stands
returns-clause-stands g c = λ tells l e.
    subst (λ (m : LogView). IsReady m (lanes_at (g.D.Disk.lane_of c.wake_host-answer.new.disk) (2 * c.args.site.now.publisher))) (some_is e)
    (subst (λ (n : ℕ). IsReady c.wake_host-answer.new.log (lanes_at (g.D.Disk.lane_of c.wake_host-answer.new.disk) n)) (new_lane g c) (c.wake_host-answer.ensures.uses.stands tells))
