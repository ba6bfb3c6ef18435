use Rattle.std.proofs.Common.{◌≤◌, arith}
use Rattle.gr_subend.proofs.Handing.{one_more}
use Rattle.gr_subend.proofs.subend.put_each.Goals as goal

pub loop-tick-preserved : goal.loop-tick-preserved
loop-tick-preserved c =
    let le : c.loop-tick.tick ≤ c.args.last = omega arith in
    one_more c.args.event.now c.share.result c.loop-tick.tick c.args.last c.loop-tick.deliveries c.push.new.self _ le c.share.ensures c.in_ok-push.ensures.ok c.loop-tick.invariant
