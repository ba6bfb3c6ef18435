-- A wake is its mark, and then its cut
use Rattle.std.proofs.Common.{◌≡◌, ℕ, true, Ok, Err, refl, sym, ap, ◌∙◌, subst}
use Rattle.gr_publog.specs.declared.record.LogFault.TheVariants as fault
use Rattle.gr_publog.specs.Views.{LogView}
use Rattle.gr_publog.proofs.Passing.{appends_ok_as, appends_err_as, same_fault}
use Rattle.gr_pubend.proofs.Cuts.{cuts_ok_as, cuts_err_as}
use Rattle.gr_broker_relay.specs.Held.{held_view, shown_net}
use Rattle.gr_broker.specs.Keeps.{UsesLane}
use Rattle.gr_broker.proofs.Wakes.{AreLaws, noted_broken, wakes_stopped, wakes_on, same_lane, second_lanes, second_ok, second_err, second_told, second_reopens, first_reopens}
use Rattle.gr_broker.proofs.Using.{uses_ok_as, uses_err_as, uses_then}
use Rattle.gr_broker.proofs.hosting.wake_host.Goals as goal

-- Where the mark did not come through

pub returns-in-Err-clause-lane : goal.returns-in-Err-clause-lane
returns-in-Err-clause-lane g c = λ t. wakes_stopped c.args.log.now _ _ _ _ _ c.in-Err.fault (appends_err_as c.args.log.now _ _ _ c.in-Err.fault (c.in-Err.ensures.lane t))

pub returns-in-Err-clause-reopen : goal.returns-in-Err-clause-reopen
returns-in-Err-clause-reopen g c = first_reopens c.in-Err.fault _ _ _ c.in-Err.ensures.reopen (c.in-Err.ensures.wants refl)

-- Where both came through

pub returns-in-Ok-cut-clause-told : goal.returns-in-Ok-cut-clause-told
returns-in-Ok-cut-clause-told g c =
    let site = c.args.site.now in
    let m = c.in-Ok.ensures in
    let k = c.in-Ok-cut.ensures in
    second_told (shown_net site.topo.now c.args.held.now) site.publisher site.broker c.args.now (held_view c.args.held.now) (held_view c.mark.new.held) c.args.log.now c.mark.new.log m.log.ok m.view
    c.in-Ok.marked c.new-told.result c.mark.new.into c.cut.new.into c.settings.ensures.topology.sound.settings.quiet.0 m.tick c.new-told.ensures.reports c.new-told.ensures.frames m.adds k.lines k.frames

pub returns-in-Ok-cut-clause-leaves : goal.returns-in-Ok-cut-clause-leaves
returns-in-Ok-cut-clause-leaves g c =
    let site = c.args.site.now in
    let m = c.in-Ok.ensures in
    second_ok (shown_net site.topo.now c.args.held.now) site.publisher site.broker c.args.now (held_view c.args.held.now) (held_view c.mark.new.held) c.args.log.now c.mark.new.log m.log.ok m.view
    c.cut.new.log c.cut.new.into c.in-Ok-cut.ensures.log

pub returns-in-Ok-cut-clause-lane : goal.returns-in-Ok-cut-clause-lane
returns-in-Ok-cut-clause-lane g c = λ t.
    let site = c.args.site.now in
    let m = c.in-Ok.ensures in
    let laws : AreLaws = record { leaves = c.may_leave_what_it_reads.ensures; shut = c.shut_is.ensures; two = c.two_are.ensures; lower = c.lower_is.ensures } in
    wakes_on c.args.log.now _ laws _ _ _ _ (c.requires.stands t) _ _ (appends_ok_as c.args.log.now _ _ _ c.in-Ok.marked tt (m.lane t))
    (cuts_ok_as _ _ _ _ _ tt c.cut.new.into
    (second_lanes (shown_net site.topo.now c.args.held.now) site.publisher site.broker c.args.now (held_view c.args.held.now) (held_view c.mark.new.held) c.args.log.now c.mark.new.log m.log.ok m.view
    (g.D.Disk.lane_of c.mark.new.disk) (g.D.Disk.lane_of c.cut.new.disk) _ (c.in-Ok-cut.ensures.lane t)))

pub returns-in-Ok-cut-clause-uses : goal.returns-in-Ok-cut-clause-uses
returns-in-Ok-cut-clause-uses g c =
    let m = c.in-Ok.ensures in
    let k = c.in-Ok-cut.ensures in
    record {
      lane = uses_then c.in-Ok.marked (Ok c.cut.new.into) m.uses.lane
          (uses_ok_as tt c.cut.new.into (subst (λ (n : ℕ). UsesLane {T = Unit {0}} g.D.Disk.tells g.D.Disk.faultless g.D.Disk.lane_of g.D.Disk.faults g.D.Disk.stops n c.mark.new.disk c.cut.new.disk (Ok tt)) (same_lane (shown_net c.args.site.now.topo.now c.args.held.now) c.args.site.now.publisher c.args.site.now.broker c.args.now (held_view c.args.held.now) (held_view c.mark.new.held) c.args.log.now c.mark.new.log m.log.ok m.view) k.uses.lane))
          (λ h. absurd (cc h));
      stands = k.uses.stands;
    }

pub returns-in-Ok-cut-clause-reopen : goal.returns-in-Ok-cut-clause-reopen
returns-in-Ok-cut-clause-reopen g c =
    let site = c.args.site.now in
    let m = c.in-Ok.ensures in
    second_reopens (shown_net site.topo.now c.args.held.now) site.publisher site.broker c.args.now (held_view c.args.held.now) (held_view c.mark.new.held) c.args.log.now c.mark.new.log m.log.ok m.view
    (Ok tt) (Ok c.cut.new.into) c.in-Ok-cut.ensures.reopen (λ h. cc h, λ h. cc h) (λ h. let e = m.reopen.1 h in cc e)

-- Where the cut did not

pub returns-in-Err-cut-clause-leaves : goal.returns-in-Err-cut-clause-leaves
returns-in-Err-cut-clause-leaves g c =
    let site = c.args.site.now in
    let m = c.in-Ok.ensures in
    let k = c.in-Err-cut.ensures in
    second_err (shown_net site.topo.now c.args.held.now) site.publisher site.broker c.args.now (held_view c.args.held.now) (held_view c.mark.new.held) c.args.log.now c.mark.new.log m.log.ok m.view
    c.cut.new.log c.in-Err-cut.fault k.log
    (λ h s.
    let broken : c.args.log.now.broken ≡ true = sym (ap (λ (x : LogView). x.broken) m.log.ok ∙ noted_broken _ c.args.log.now) ∙ (k.reopen.0 h).0 in
    let e = m.reopen.1 (broken, s) in
    cc e)

pub returns-in-Err-cut-clause-lane : goal.returns-in-Err-cut-clause-lane
returns-in-Err-cut-clause-lane g c = λ t.
    let site = c.args.site.now in
    let m = c.in-Ok.ensures in
    let laws : AreLaws = record { leaves = c.may_leave_what_it_reads.ensures; shut = c.shut_is.ensures; two = c.two_are.ensures; lower = c.lower_is.ensures } in
    wakes_on c.args.log.now _ laws _ _ _ _ (c.requires.stands t) _ _ (appends_ok_as c.args.log.now _ _ _ c.in-Ok.marked tt (m.lane t))
    (cuts_err_as _ _ _ _ _ c.in-Err-cut.fault
    (second_lanes (shown_net site.topo.now c.args.held.now) site.publisher site.broker c.args.now (held_view c.args.held.now) (held_view c.mark.new.held) c.args.log.now c.mark.new.log m.log.ok m.view
    (g.D.Disk.lane_of c.mark.new.disk) (g.D.Disk.lane_of c.cut.new.disk) _ (c.in-Err-cut.ensures.lane t)))

pub returns-in-Err-cut-clause-uses : goal.returns-in-Err-cut-clause-uses
returns-in-Err-cut-clause-uses g c =
    let m = c.in-Ok.ensures in
    let k = c.in-Err-cut.ensures in
    record {
      lane = uses_then c.in-Ok.marked (Err c.in-Err-cut.fault) m.uses.lane
          (uses_err_as c.in-Err-cut.fault (subst (λ (n : ℕ). UsesLane {T = Unit {0}} g.D.Disk.tells g.D.Disk.faultless g.D.Disk.lane_of g.D.Disk.faults g.D.Disk.stops n c.mark.new.disk c.cut.new.disk (Err c.in-Err-cut.fault)) (same_lane (shown_net c.args.site.now.topo.now c.args.held.now) c.args.site.now.publisher c.args.site.now.broker c.args.now (held_view c.args.held.now) (held_view c.mark.new.held) c.args.log.now c.mark.new.log m.log.ok m.view) k.uses.lane))
          (λ h.
          let again = same_fault {U = Unit {0}} c.in-Err-cut.fault fault.Reopen h in
          k.uses.lane.disk.idle again ∙ m.closed (sym (ap (λ (x : LogView). x.broken) m.log.ok ∙ noted_broken _ c.args.log.now) ∙ (k.reopen.0 again).0));
      stands = k.uses.stands;
    }

pub returns-in-Err-cut-clause-reopen : goal.returns-in-Err-cut-clause-reopen
returns-in-Err-cut-clause-reopen g c =
    let site = c.args.site.now in
    let m = c.in-Ok.ensures in
    second_reopens (shown_net site.topo.now c.args.held.now) site.publisher site.broker c.args.now (held_view c.args.held.now) (held_view c.mark.new.held) c.args.log.now c.mark.new.log m.log.ok m.view
    (Err c.in-Err-cut.fault) (Err c.in-Err-cut.fault) c.in-Err-cut.ensures.reopen
    (λ h. same_fault c.in-Err-cut.fault fault.Reopen h, λ h. same_fault c.in-Err-cut.fault fault.Reopen h) (λ h. let e = m.reopen.1 h in cc e)
