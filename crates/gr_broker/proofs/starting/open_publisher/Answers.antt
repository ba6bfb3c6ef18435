-- No more may join than a topology has late subscribers, and what an opening loses
use Rattle.std.proofs.Common.{length, ap, arith}
use Rattle.gr_broker.proofs.Opening.{publisher_loses}
use Rattle.gr_broker.proofs.starting.open_publisher.Goals as goal

pub open-requires : goal.open-requires
open-requires g c = omega (arith, ap length c.requires.late, c.publishers.ensures.topology.sound.limits.late)

pub returns-in-Err-open-clause-any_moment : goal.returns-in-Err-open-clause-any_moment
returns-in-Err-open-clause-any_moment g c = λ tells here.
    publisher_loses c.args.late.now _ c.log_lane.result _ (g.D.Disk.lane_of c.args.disk.now) (g.D.Disk.lane_of c.open.new.disk) c.open.result c.requires.late c.log_lane.ensures (c.open.ensures.opens tells)

pub returns-in-Ok-held_over-clause-any_moment : goal.returns-in-Ok-held_over-clause-any_moment
returns-in-Ok-held_over-clause-any_moment g c = λ tells here.
    publisher_loses c.args.late.now _ c.log_lane.result _ (g.D.Disk.lane_of c.args.disk.now) (g.D.Disk.lane_of c.open.new.disk) c.open.result c.requires.late c.log_lane.ensures (c.open.ensures.opens tells)

pub returns-in-Err-held_over-clause-any_moment : goal.returns-in-Err-held_over-clause-any_moment
returns-in-Err-held_over-clause-any_moment g c = λ tells here.
    publisher_loses c.args.late.now _ c.log_lane.result _ (g.D.Disk.lane_of c.args.disk.now) (g.D.Disk.lane_of c.open.new.disk) c.open.result c.requires.late c.log_lane.ensures (c.open.ensures.opens tells)
