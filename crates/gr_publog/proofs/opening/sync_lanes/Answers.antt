-- The first one, and then the second
use Rattle.std.proofs.Common.{arith}
use Rattle.gr_publog.proofs.Surveying.{surveys_first, surveys_second}
use Rattle.gr_publog.proofs.opening.sync_lanes.Goals as goal

pub returns-in-Err-clause-surveys : goal.returns-in-Err-clause-surveys
returns-in-Err-clause-surveys g c = λ t.
    let e = c.in-Err.ensures in
    surveys_first c.may_leave_what_it_reads.ensures (g.D.Disk.lane_of c.args.disk.now) (g.D.Disk.lane_of c.ready_lane.new.disk) c.args.lane c.in-Err.fault
    (record { same = e.content t; on = e.on t; only = tt; calls = tt; any_moment = e.any_moment t; reserved = tt; unset = e.unset t }) (e.uses.others t)

pub returns-clause-surveys : goal.returns-clause-surveys
returns-clause-surveys g c = λ t.
    let e = c.in-Ok.ensures in
    let s = c.ready_lane-2.ensures in
    surveys_second c.may_leave_what_it_reads.ensures (g.D.Disk.lane_of c.args.disk.now) (g.D.Disk.lane_of c.ready_lane.new.disk) (g.D.Disk.lane_of c.ready_lane-2.new.disk) c.args.lane _ (tt {0}) c.ready_lane-2.result (omega arith)
    (record { same = e.content t; on = e.on t; only = e.only t; calls = e.calls t; any_moment = e.any_moment t; reserved = e.reserved t; unset = e.unset t }) (e.uses.others t)
    (record { same = s.content t; on = s.on t; only = s.only t; calls = s.calls t; any_moment = s.any_moment t; reserved = s.reserved t; unset = s.unset t }) (s.uses.others t)
