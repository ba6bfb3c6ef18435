use Rattle.std.proofs.Common.{length, arith}
use Rattle.gr_model.specs.NetOf.{net_of}
use Rattle.gr_model.specs.World.{at_depth, outwards}
use Rattle.gr_world.proofs.Depths.{outwards_more}
use Rattle.gr_world.proofs.order.host_first.Goals as goal

pub depths-preserved : goal.depths-preserved
depths-preserved c =
    let net = net_of c.args.topology.now in
    outwards_more (at_depth net c.args.p) c.depths.found c.put_depth.new.found (outwards net c.args.p) c.depths.depth (length c.args.topology.now.brokers)
    (omega (arith, c.depths-test.true, c.brokers-depth-end.ensures.count)) c.in_ok-put_depth.ensures c.depths.invariant
