use Rattle.std.proofs.Common.{◌+◌, ◌<◌, length, get_or, drop, Ok, Err, arith}
use Rattle.gr_model.specs.World.{hand_down, in_turn}
use Rattle.gr_world.specs.Seen.{net_in, world_of}
use Rattle.gr_world.proofs.Joining.{ran_joined, delivers_joined, does_same}
use Rattle.gr_world.proofs.Onward.{leads_joined, places_left}
use Rattle.gr_world.proofs.world.World.hand_brokers.Goals as goal

pub returns-in-Err-clause-ran : goal.returns-in-Err-clause-ran
returns-in-Err-clause-ran c =
    ran_joined c.args.self.now c.brokers.self c.hand_down-told.new.self c.brokers.lines c.hand_down-told.result (Err c.in-Err.fault) c.in-Err.ensures c.brokers.invariant.ran c.hand_down-told.ensures.ran

pub brokers-preserved : goal.brokers-preserved
brokers-preserved c =
    let a = c.args.self.now in
    let b = c.brokers.self in
    let new = c.hand_down-told.new.self in
    let bs = c.args.brokers.now in
    let i = c.brokers.b-index in
    let here : i < length bs = omega (arith, c.brokers-test.true) in
    let sofar = c.brokers.invariant in
    let told = c.hand_down-told.result in
    record {
      ran = ran_joined a b new c.brokers.lines told (Ok c.in-Ok.all) c.in-Ok.ensures sofar.ran c.hand_down-told.ensures.ran;
      delivers = delivers_joined a b new c.brokers.lines told (Ok c.in-Ok.all) sofar.ran.keeps.topo c.in-Ok.ensures sofar.delivers c.hand_down-told.ensures.delivers;
      leads = leads_joined (hand_down (net_in a) c.args.p c.args.first) (get_or bs i 0) (drop (i + 1) bs) (drop i bs) b new c.brokers.lines c.in-Ok.all told (in_turn (hand_down (net_in a) c.args.p c.args.first) bs (world_of a))
          (places_left bs i here) c.in-Ok.ensures sofar.leads (does_same (λ n. hand_down n c.args.p c.args.first (world_of b) (get_or bs i 0)) a b new told sofar.ran.keeps.topo c.hand_down-told.ensures.does);
    }
