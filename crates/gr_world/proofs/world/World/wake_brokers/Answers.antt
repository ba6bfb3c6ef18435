use Rattle.std.proofs.Common.{◌+◌, ◌<◌, length, get_or, drop, take, Ok, Err, refl, arith, drop_of_length-le}
use Rattle.gr_model.specs.World.{wake_up, in_turn}
use Rattle.gr_world.specs.Seen.{net_in, world_of}
use Rattle.gr_world.specs.Ended.{WakeEnds}
use Rattle.gr_world.proofs.Composed.{ran_none, disk_none}
use Rattle.gr_world.proofs.Joining.{ran_joined, disk_joined, does_same}
use Rattle.gr_world.proofs.ByCalls.{lanes_none, lanes_on}
use Rattle.gr_world.proofs.Onward.{leads_all, leads_joined, places_left}
use Rattle.gr_world.proofs.Barring.{host_left, host_passed}
use Rattle.gr_world.proofs.Ending.{so_far_none, so_far_next, ends_at, place_next, place_here, ends_wake_up}
use Rattle.gr_world.proofs.world.World.wake_brokers.Goals as goal

pub brokers-init : goal.brokers-init
brokers-init g c =
    let a = c.args.self.now in
    let bs = c.args.brokers.now in
    record {
      ran = ran_none c.no_lines-lines.result c.requires.fits;
      disk = disk_none c.no_lines-lines.result;
      lanes = c.requires.lanes;
      leads = leads_all (wake_up (net_in a) c.args.p) bs bs a c.no_lines-lines.result (in_turn (wake_up (net_in a) c.args.p) bs (world_of a)) c.no_lines-lines.ensures refl refl;
      due = λ d has. has;
      done = so_far_none (wake_up (net_in a) c.args.p) a;
      calls = lanes_none a.topo (g.D.Disk.lane_of c.args.disk.now);
    }

pub brokers-preserved : goal.brokers-preserved
brokers-preserved g c =
    let a = c.args.self.now in
    let b = c.brokers.self in
    let new = c.wake_up-told.new.self in
    let bs = c.args.brokers.now in
    let i = c.brokers.b-index in
    let here : i < length bs = omega (arith, c.brokers-test.true) in
    let sofar = c.brokers.invariant in
    let told = c.wake_up-told.result in
    let x = c.args.disk.now in
    let y = c.brokers.disk in
    let z = c.wake_up-told.new.disk in
    let f = wake_up (net_in a) c.args.p in
    let does = does_same (λ n. wake_up n c.args.p (world_of b) (get_or bs i 0)) a b new told sofar.ran.keeps.topo c.wake_up-told.ensures.does in
    record {
      ran = ran_joined a b new c.brokers.lines told (Ok c.in-Ok.all) c.in-Ok.ensures sofar.ran c.wake_up-told.ensures.ran;
      disk = disk_joined (g.D.Disk.faultless x) (g.D.Disk.faultless y) (g.D.Disk.faultless z) (g.D.Disk.faults x) (g.D.Disk.stops x) (g.D.Disk.faults y) (g.D.Disk.stops y) (g.D.Disk.faults z) (g.D.Disk.stops z)
          c.brokers.lines told (Ok c.in-Ok.all) c.in-Ok.ensures sofar.disk c.wake_up-told.ensures.disk;
      lanes = c.wake_up-told.ensures.lanes;
      leads = leads_joined f (get_or bs i 0) (drop (i + 1) bs) (drop i bs) b new c.brokers.lines c.in-Ok.all told (in_turn f bs (world_of a)) (places_left bs i here) c.in-Ok.ensures sofar.leads does;
      due = λ d has. host_left a b c.args.p (get_or bs i 0) (drop i bs) (drop (i + 1) bs) c.brokers.lines c.in-Ok.all told c.requires.publisher (places_left bs i here) c.in-Ok.ensures sofar.ran c.wake_up-told.ensures.bars d (sofar.due d has);
      done = so_far_next f (take i bs) (take (i + 1) bs) (get_or bs i 0) a b new c.brokers.lines c.in-Ok.all told (place_next bs i here) c.in-Ok.ensures sofar.done does;
      calls = lanes_on a.topo b.topo (g.D.Disk.lane_of x) (g.D.Disk.lane_of y) (g.D.Disk.lane_of z) sofar.ran.keeps.topo sofar.calls c.wake_up-told.ensures.calls;
    }

pub returns-in-Err-clause-ran : goal.returns-in-Err-clause-ran
returns-in-Err-clause-ran g c =
    ran_joined c.args.self.now c.brokers.self c.wake_up-told.new.self c.brokers.lines c.wake_up-told.result (Err c.in-Err.fault) c.in-Err.ensures c.brokers.invariant.ran c.wake_up-told.ensures.ran

pub returns-in-Err-clause-ends : goal.returns-in-Err-clause-ends
returns-in-Err-clause-ends g c = λ e.
    let a = c.args.self.now in
    let bs = c.args.brokers.now in
    let i = c.brokers.b-index in
    let here : i < length bs = omega (arith, c.brokers-test.true) in
    let sofar = c.brokers.invariant in
    ends_at (wake_up (net_in a) c.args.p) (λ b. WakeEnds b c.args.p (Err c.in-Err.fault)) bs (take i bs) (drop (i + 1) bs) (get_or bs i 0) a c.brokers.self c.wake_up-told.new.self
    (place_here bs i here) sofar.ran.keeps sofar.done
    (ends_wake_up (get_or bs i 0) c.args.p c.brokers.self c.wake_up-told.new.self c.brokers.lines c.wake_up-told.result (Err c.in-Err.fault) c.in-Err.ensures c.wake_up-told.ensures.ends e)

pub returns-in-Err-clause-calls : goal.returns-in-Err-clause-calls
returns-in-Err-clause-calls g c =
    let sofar = c.brokers.invariant in
    lanes_on c.args.self.now.topo c.brokers.self.topo (g.D.Disk.lane_of c.args.disk.now) (g.D.Disk.lane_of c.brokers.disk) (g.D.Disk.lane_of c.wake_up-told.new.disk) sofar.ran.keeps.topo sofar.calls c.wake_up-told.ensures.calls

pub returns-clause-bars : goal.returns-clause-bars
returns-clause-bars g c = λ d has.
    let bs = c.args.brokers.now in
    host_passed c.args.self.now c.args.p c.brokers.lines (drop c.brokers.b-index bs) (drop_of_length-le bs (omega (arith, c.brokers-test.false))) (c.brokers.invariant.due d has)

pub returns-in-Err-clause-disk : goal.returns-in-Err-clause-disk
returns-in-Err-clause-disk g c =
    let x = c.args.disk.now in
    let y = c.brokers.disk in
    let z = c.wake_up-told.new.disk in
    disk_joined (g.D.Disk.faultless x) (g.D.Disk.faultless y) (g.D.Disk.faultless z) (g.D.Disk.faults x) (g.D.Disk.stops x) (g.D.Disk.faults y) (g.D.Disk.stops y) (g.D.Disk.faults z) (g.D.Disk.stops z)
    c.brokers.lines c.wake_up-told.result (Err c.in-Err.fault) c.in-Err.ensures c.brokers.invariant.disk c.wake_up-told.ensures.disk
