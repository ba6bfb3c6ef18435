use Rattle.gr_world.proofs.Joining.{ran_joined, lanes_kept}
use Rattle.gr_world.proofs.Onward.{wake_up_does}
use Rattle.gr_world.proofs.Ending.{end_behind}
use Rattle.gr_world.proofs.world.World.wake_up.Goals as goal

pub returns-clause-does : goal.returns-clause-does
returns-clause-does g c =
    wake_up_does c.args.self.now c.wake_at.new.self c.deliver_up-told.new.self c.args.p c.args.b c.broker_count.result c.sent-before.result c.in-Ok.lines c.deliver_up-told.result c.joined.result
    c.in-Ok.ensures.ran.keeps.topo c.broker_count.ensures c.sent-before.ensures c.joined.ensures c.in-Ok.ensures.does c.deliver_up-told.ensures.does

pub returns-clause-ran : goal.returns-clause-ran
returns-clause-ran g c =
    ran_joined c.args.self.now c.wake_at.new.self c.deliver_up-told.new.self c.in-Ok.lines c.deliver_up-told.result c.joined.result c.joined.ensures c.in-Ok.ensures.ran c.deliver_up-told.ensures.ran

pub returns-clause-lanes : goal.returns-clause-lanes
returns-clause-lanes g c =
    lanes_kept (g.D.Disk.lane_of c.wake_at.new.disk) c.wake_at.new.self c.deliver_up-told.new.self c.deliver_up-told.ensures.ran.keeps c.deliver_up-told.ensures.delivers.logs (c.in-Ok.ensures.lanes)

pub returns-in-Err-clause-bars : goal.returns-in-Err-clause-bars
returns-in-Err-clause-bars g c = c.in-Err.ensures.reopen.1

pub returns-clause-bars : goal.returns-clause-bars
returns-clause-bars g c = λ h. absurd (cc (c.in-Ok.ensures.reopen.1 h))

pub returns-clause-ends : goal.returns-clause-ends
returns-clause-ends g c = λ e.
    absurd (end_behind c.wake_at.new.self c.deliver_up-told.new.self c.in-Ok.lines c.deliver_up-told.result c.joined.result c.joined.ensures c.deliver_up-told.ensures.delivers e)
