use Rattle.std.proofs.Common.{◌+◌, ◌-◌, ◌<◌, length, Ok, Err, subst, arith}
use Rattle.gr_topo.specs.Topology.{TopologyView}
use Rattle.gr_model.specs.NetOf.{net_of}
use Rattle.gr_model.specs.Net.{numbers, numbers_from}
use Rattle.gr_model.specs.World.{sweep_for, in_turn}
use Rattle.gr_world.specs.Seen.{net_in, world_of}
use Rattle.gr_report.proofs.Along.{numbers_left}
use Rattle.gr_world.specs.Ended.{SweepEnds}
use Rattle.gr_world.proofs.Composed.{ran_none, disk_none, leads_first}
use Rattle.gr_world.proofs.Joining.{ran_joined, disk_joined, does_same}
use Rattle.gr_world.proofs.ByCalls.{lanes_none, lanes_on}
use Rattle.gr_world.proofs.Onward.{leads_joined}
use Rattle.gr_world.proofs.Barring.{due_next}
use Rattle.gr_world.proofs.Ending.{so_far_none, so_far_next, ends_at, number_next, number_here, ends_sweeps}
use Rattle.gr_world.proofs.world.World.sweep_publishers.Goals as goal

pub publishers-init : goal.publishers-init
publishers-init g c =
    let a = c.args.self.now in
    record {
      ran = ran_none c.no_lines-lines.result c.requires.fits;
      disk = disk_none c.no_lines-lines.result;
      lanes = c.requires.lanes;
      leads = leads_first (sweep_for (net_in a)) (length a.topo.publishers) a c.no_lines-lines.result c.no_lines-lines.ensures;
      none = λ q h lt d. absurd (omega (arith, h));
      done = so_far_none (sweep_for (net_in a)) a;
      calls = lanes_none a.topo (g.D.Disk.lane_of c.args.disk.now);
    }

pub publishers-preserved : goal.publishers-preserved
publishers-preserved g c =
    let a = c.args.self.now in
    let b = c.publishers.self in
    let new = c.sweep_for-told.new.self in
    let n = length a.topo.publishers in
    let p = c.publishers.p in
    let here : p < n = omega (arith, c.publishers-test.true, c.publisher_count-p-end.ensures) in
    let sofar = c.publishers.invariant in
    let told = c.sweep_for-told.result in
    let x = c.args.disk.now in
    let y = c.publishers.disk in
    let z = c.sweep_for-told.new.disk in
    let does = does_same (λ m. sweep_for m (world_of b) p) a b new told sofar.ran.keeps.topo c.sweep_for-told.ensures.does in
    record {
      ran = ran_joined a b new c.publishers.lines told (Ok c.in-Ok.all) c.in-Ok.ensures sofar.ran c.sweep_for-told.ensures.ran;
      disk = disk_joined (g.D.Disk.faultless x) (g.D.Disk.faultless y) (g.D.Disk.faultless z) (g.D.Disk.faults x) (g.D.Disk.stops x) (g.D.Disk.faults y) (g.D.Disk.stops y) (g.D.Disk.faults z) (g.D.Disk.stops z)
          c.publishers.lines told (Ok c.in-Ok.all) c.in-Ok.ensures sofar.disk c.sweep_for-told.ensures.disk;
      lanes = c.sweep_for-told.ensures.lanes;
      leads = leads_joined (sweep_for (net_in a)) p (numbers_from (p + 1) (n - (p + 1))) (numbers_from p (n - p)) b new c.publishers.lines c.in-Ok.all told (in_turn (sweep_for (net_in a)) (numbers n) (world_of a))
          (numbers_left p n here) c.in-Ok.ensures sofar.leads does;
      none = due_next a b p c.publishers.lines c.in-Ok.all told c.in-Ok.ensures sofar.ran c.sweep_for-told.ensures.bars sofar.none;
      done = so_far_next (sweep_for (net_in a)) (numbers_from 0 p) (numbers_from 0 (p + 1)) p a b new c.publishers.lines c.in-Ok.all told (number_next p) c.in-Ok.ensures sofar.done does;
      calls = lanes_on a.topo b.topo (g.D.Disk.lane_of x) (g.D.Disk.lane_of y) (g.D.Disk.lane_of z) sofar.ran.keeps.topo sofar.calls c.sweep_for-told.ensures.calls;
    }

pub returns-in-Err-clause-ran : goal.returns-in-Err-clause-ran
returns-in-Err-clause-ran g c =
    ran_joined c.args.self.now c.publishers.self c.sweep_for-told.new.self c.publishers.lines c.sweep_for-told.result (Err c.in-Err.fault) c.in-Err.ensures c.publishers.invariant.ran c.sweep_for-told.ensures.ran

pub returns-in-Err-clause-ends : goal.returns-in-Err-clause-ends
returns-in-Err-clause-ends g c = λ e.
    let a = c.args.self.now in
    let p = c.publishers.p in
    let n = length a.topo.publishers in
    let here : p < n = omega (arith, c.publishers-test.true, c.publisher_count-p-end.ensures) in
    let sofar = c.publishers.invariant in
    ends_at (sweep_for (net_in a)) (SweepEnds (net_in a) (Err c.in-Err.fault)) (numbers n) (numbers_from 0 p) (numbers_from (p + 1) (n - (p + 1))) p a c.publishers.self c.sweep_for-told.new.self
    (number_here p n here) sofar.ran.keeps sofar.done
    (subst (λ (t : TopologyView). SweepEnds (net_of t) (Err c.in-Err.fault) p c.publishers.self c.sweep_for-told.new.self) sofar.ran.keeps.topo
    (ends_sweeps (net_in c.publishers.self) p c.publishers.self c.sweep_for-told.new.self c.publishers.lines c.sweep_for-told.result (Err c.in-Err.fault) c.in-Err.ensures c.sweep_for-told.ensures.ends e))

pub returns-in-Err-clause-calls : goal.returns-in-Err-clause-calls
returns-in-Err-clause-calls g c =
    let sofar = c.publishers.invariant in
    lanes_on c.args.self.now.topo c.publishers.self.topo (g.D.Disk.lane_of c.args.disk.now) (g.D.Disk.lane_of c.publishers.disk) (g.D.Disk.lane_of c.sweep_for-told.new.disk) sofar.ran.keeps.topo sofar.calls c.sweep_for-told.ensures.calls

pub returns-clause-bars : goal.returns-clause-bars
returns-clause-bars g c = λ q lt d. absurd (c.publishers.invariant.none q (omega (arith, lt, c.publishers-test.false, c.publisher_count-p-end.ensures)) lt d)
