-- What is left is what the log's cut left; where memory is refused no call was made
use Rattle.std.proofs.Common.{not, if◌then◌else◌, Some, Ok, Err, refl, subst}
use Rattle.gr_topo.specs.declared.settings.Settings.{Settings}
use Rattle.gr_publog.specs.Views.{lanes_at}
use Rattle.gr_pubend.specs.Cuts.{Cuts, cut_reclaims, cut_view}
use Rattle.gr_pubend.proofs.Cuts.{cuts_unmade, cuts_ok_as, cuts_err_as, cut_stays, cuts_stand, cuts_untouched}
use Rattle.gr_broker.proofs.Using.{cuts_both, log_uses, uses_ok_as, uses_err_as}
use Rattle.gr_broker.proofs.hosting.cut_upto.Goals as goal

pub returns-in-Err-clause-lane : goal.returns-in-Err-clause-lane
returns-in-Err-clause-lane g c = λ t. cuts_unmade c.stands_read.ensures c.args.log.now _ _ (c.requires.stands t) refl (Some c.args.tick) _

pub returns-in-Ok-cut_log-clause-lane : goal.returns-in-Ok-cut_log-clause-lane
returns-in-Ok-cut_log-clause-lane g c = λ t.
    let l = c.args.log.now in
    cuts_ok_as l _ _ (Some c.args.tick) _ c.in-Ok-cut_log.field-0 tt
    (subst (λ (s : Settings). Cuts l (Some c.args.tick) s.reclaim (lanes_at (g.D.Disk.lane_of c.args.disk.now) l.lane) (lanes_at (g.D.Disk.lane_of c.cut_log.new.disk) l.lane) (Ok c.in-Ok-cut_log.field-0)) c.settings.ensures.value
    (c.in-Ok-cut_log.ensures.lanes t))

pub returns-in-Err-cut_log-clause-lane : goal.returns-in-Err-cut_log-clause-lane
returns-in-Err-cut_log-clause-lane g c = λ t.
    let l = c.args.log.now in
    cuts_err_as l _ _ (Some c.args.tick) _ c.in-Err-cut_log.fault
    (subst (λ (s : Settings). Cuts l (Some c.args.tick) s.reclaim (lanes_at (g.D.Disk.lane_of c.args.disk.now) l.lane) (lanes_at (g.D.Disk.lane_of c.cut_log.new.disk) l.lane) (Err c.in-Err-cut_log.fault)) c.settings.ensures.value
    (c.in-Err-cut_log.ensures.lanes t))

pub returns-in-Ok-cut_log-clause-uses : goal.returns-in-Ok-cut_log-clause-uses
returns-in-Ok-cut_log-clause-uses g c =
    let l = c.args.log.now in
    let k = c.in-Ok-cut_log.ensures in
    let reclaim = c.settings.result.reclaim in
    let stays = cut_stays reclaim c.args.tick l in
    let u = log_uses c.args.disk.now c.cut_log.new.disk l c.cut_log.new.log (cut_view reclaim c.args.tick l) (if cut_reclaims l reclaim then not l.second else l.second) (Ok c.in-Ok-cut_log.field-0)
    c.requires.stands k.log stays.0 stays.1 k.disk
    (λ t. cuts_both l (Some c.args.tick) reclaim _ _ _ (k.lanes t)) (λ t. cuts_stand l reclaim _ _ _ (Some c.args.tick) (k.lanes t) (c.requires.stands t)) (λ t. cuts_untouched l reclaim _ _ _ (Some c.args.tick) (k.lanes t)) in
    record { lane = uses_ok_as c.in-Ok-cut_log.field-0 tt u.lane; stands = u.stands }

pub returns-in-Err-cut_log-clause-uses : goal.returns-in-Err-cut_log-clause-uses
returns-in-Err-cut_log-clause-uses g c =
    let l = c.args.log.now in
    let k = c.in-Err-cut_log.ensures in
    let reclaim = c.settings.result.reclaim in
    let stays = cut_stays reclaim c.args.tick l in
    let u = log_uses c.args.disk.now c.cut_log.new.disk l c.cut_log.new.log (cut_view reclaim c.args.tick l) (if cut_reclaims l reclaim then not l.second else l.second) (Err c.in-Err-cut_log.fault)
    c.requires.stands k.log stays.0 stays.1 k.disk
    (λ t. cuts_both l (Some c.args.tick) reclaim _ _ _ (k.lanes t)) (λ t. cuts_stand l reclaim _ _ _ (Some c.args.tick) (k.lanes t) (c.requires.stands t)) (λ t. cuts_untouched l reclaim _ _ _ (Some c.args.tick) (k.lanes t)) in
    record { lane = uses_err_as c.in-Err-cut_log.fault u.lane; stands = u.stands }
