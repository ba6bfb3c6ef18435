use Rattle.gr_out.specs.Lane.{crashed}
use Rattle.gr_broker.specs.Lanes.{log_lane}
use Rattle.gr_world.proofs.Both.{both_changed, others_same}
use Rattle.gr_world.proofs.pair.crash_both.Goals as goal

pub returns-clause-both : goal.returns-clause-both
returns-clause-both g c =
    let told = g.met.D.SimDisk.told in
    both_changed crashed (g.D.Disk.lane_of c.args.disk.now) (g.D.Disk.lane_of c.crash.new.self) (g.D.Disk.lane_of c.crash-2.new.self) (log_lane c.args.publisher) c.log_lane-lane.result
    c.log_lane-lane.ensures (c.crash.ensures.crashed told) (c.crash.ensures.others told) (c.crash-2.ensures.crashed told) (c.crash-2.ensures.others told)

pub returns-clause-others : goal.returns-clause-others
returns-clause-others g c =
    let told = g.met.D.SimDisk.told in
    others_same crashed (g.D.Disk.lane_of c.args.disk.now) (g.D.Disk.lane_of c.crash.new.self) (g.D.Disk.lane_of c.crash-2.new.self) (log_lane c.args.publisher) c.log_lane-lane.result
    c.log_lane-lane.ensures (c.crash.ensures.others told) (c.crash-2.ensures.others told)
