use Rattle.std.proofs.Common.{◌≡◌, ℕ, ◌+◌, ◌-◌, ◌<◌, [], length, Ok, Err, refl, ap, arith}
use Rattle.gr_model.specs.Net.{numbers_from}
use Rattle.gr_topo.specs.Topology.{TopologyView}
use Rattle.gr_model.specs.NetOf.{net_of}
use Rattle.gr_model.specs.World.{World, wake_for}
use Rattle.gr_world.specs.Seen.{WorldView, net_in}
use Rattle.gr_world.specs.Disk.{BarsWake}
use Rattle.gr_world.specs.Ended.{WakeEnds}
use Rattle.gr_world.proofs.Barring.{as_before, as_before_next, none_next, none_barred, fault_barred, reopens_never}
use Rattle.gr_world.proofs.Ending.{so_far_none, so_far_next, ends_at, number_next, number_here}
use Rattle.gr_world.proofs.ByCalls.{lanes_none, lanes_on}
use Rattle.gr_world.proofs.Composed.{leads_number, ran_none, ran_on, ran_lines, ran_memory, disk_none, disk_on, disk_lines}
use Rattle.gr_world.proofs.Stepping.{wakes_first, wake_next}
use Rattle.gr_world.proofs.world.World.wake_each.Goals as goal

pub publishers-init : goal.publishers-init
publishers-init g c = record {
  leads = wakes_first (net_in c.args.self.now) c.args.self.now c.args.b c.new-lines.result c.new-lines.ensures;
  ran = ran_none c.new-lines.result c.requires.fits;
  disk = disk_none c.new-lines.result;
  lanes = c.requires.lanes;
  before = λ q h. as_before c.args.b q c.args.self.now;
  none = λ q h _. absurd (omega (arith, h));
  done = so_far_none (λ u p. wake_for (net_in c.args.self.now) u c.args.b p) c.args.self.now;
  calls = lanes_none c.args.self.now.topo (g.D.Disk.lane_of c.args.disk.now);
}

pub returns-in-Err-clause-ran : goal.returns-in-Err-clause-ran
returns-in-Err-clause-ran g c = ran_on c.publishers.invariant.ran c.in-Err.ensures.ran

pub publishers-preserved : goal.publishers-preserved
publishers-preserved g c =
    let net = net_in c.args.self.now in
    let f = λ (u : World) (p : ℕ). wake_for net u c.args.b p in
    let n = length c.args.self.now.topo.publishers in
    let sofar = c.publishers.invariant in
    let one = c.in-Ok.ensures in
    let p = c.publishers.p in
    let many : length c.self.inside.topology.publishers ≡ n = ap (λ (w : WorldView). length w.topo.publishers) c.self.view_is in
    let before : p < n = omega (arith, c.publishers-test.true, c.publishers-p-end.ensures.count, many) in
    let same = ap (λ (t : TopologyView). net_of t) sofar.ran.keeps.topo in
    record {
      leads = rw c.in-Ok-append.ensures.ok (leads_number f p n before sofar.leads (wake_next net c.publishers.self c.args.b p _ _ same one.does));
      ran = ran_lines _ (ran_on sofar.ran one.ran);
      disk = disk_lines _ (disk_on sofar.disk one.disk);
      lanes = one.lanes;
      before = λ q h. as_before_next c.args.b p q c.args.self.now c.publishers.self c.wake_at.new.self (omega (arith, h)) one.apart (sofar.before q (omega (arith, h)));
      none = none_next c.args.b p c.args.self.now c.publishers.self c.in-Ok.told c.requires.fits sofar.ran.fits sofar.ran.keeps c.requires.broker (sofar.before p (omega arith)) one.reopen sofar.none;
      done = so_far_next f (numbers_from 0 p) (numbers_from 0 (p + 1)) p c.args.self.now c.publishers.self c.wake_at.new.self [] c.in-Ok.told (Ok c.in-Ok.told) (number_next p) refl sofar.done (wake_next net c.publishers.self c.args.b p _ _ same one.does);
      calls = lanes_on c.args.self.now.topo c.publishers.self.topo (g.D.Disk.lane_of c.args.disk.now) (g.D.Disk.lane_of c.publishers.disk) (g.D.Disk.lane_of c.wake_at.new.disk) sofar.ran.keeps.topo sofar.calls one.calls;
    }

-- it ends at one of them

pub returns-in-Err-clause-reopen : goal.returns-in-Err-clause-reopen
returns-in-Err-clause-reopen g c =
    let here : c.publishers.p < length c.args.self.now.topo.publishers = omega (arith, c.publishers-test.true, c.publishers-p-end.ensures.count, ap (λ (w : WorldView). length w.topo.publishers) c.self.view_is) in
    let sofar = c.publishers.invariant in
    fault_barred c.args.b c.publishers.p c.args.self.now c.publishers.self c.in-Err.fault c.requires.fits sofar.ran.fits sofar.ran.keeps c.requires.broker here (sofar.before c.publishers.p (omega arith)) c.in-Err.ensures.reopen c.in-Err.ensures.ran.carried

pub returns-in-Err-clause-ends : goal.returns-in-Err-clause-ends
returns-in-Err-clause-ends g c = λ e.
    let here : c.publishers.p < length c.args.self.now.topo.publishers = omega (arith, c.publishers-test.true, c.publishers-p-end.ensures.count, ap (λ (w : WorldView). length w.topo.publishers) c.self.view_is) in
    let a = c.args.self.now in
    let p = c.publishers.p in
    let n = length a.topo.publishers in
    let sofar = c.publishers.invariant in
    ends_at (λ (u : World) (q : ℕ). wake_for (net_in a) u c.args.b q) (λ q. WakeEnds c.args.b q (Err c.in-Err.fault)) (numbers_from 0 n) (numbers_from 0 p) (numbers_from (p + 1) (n - (p + 1))) p
    a c.publishers.self c.wake_at.new.self (number_here p n here) sofar.ran.keeps sofar.done c.in-Err.ensures.ends

pub returns-in-Err-clause-calls : goal.returns-in-Err-clause-calls
returns-in-Err-clause-calls g c =
    let sofar = c.publishers.invariant in
    lanes_on c.args.self.now.topo c.publishers.self.topo (g.D.Disk.lane_of c.args.disk.now) (g.D.Disk.lane_of c.publishers.disk) (g.D.Disk.lane_of c.wake_at.new.disk) sofar.ran.keeps.topo sofar.calls c.in-Err.ensures.calls

pub returns-in-Err-append-clause-ran : goal.returns-in-Err-append-clause-ran
returns-in-Err-append-clause-ran g c = ran_memory (ran_on c.publishers.invariant.ran c.in-Ok.ensures.ran)

pub returns-in-Err-append-clause-calls : goal.returns-in-Err-append-clause-calls
returns-in-Err-append-clause-calls g c =
    let sofar = c.publishers.invariant in
    lanes_on c.args.self.now.topo c.publishers.self.topo (g.D.Disk.lane_of c.args.disk.now) (g.D.Disk.lane_of c.publishers.disk) (g.D.Disk.lane_of c.wake_at.new.disk) sofar.ran.keeps.topo sofar.calls c.in-Ok.ensures.calls

pub returns-clause-reopen : goal.returns-clause-reopen
returns-clause-reopen g c =
    let a = c.args.self.now in
    reopens_never (BarsWake a c.args.b) c.publishers.lines
    (none_barred c.args.b (length a.topo.publishers) c.publishers.p a refl (omega (arith, c.publishers-test.false, c.publishers-p-end.ensures.count, ap (λ (w : WorldView). length w.topo.publishers) c.self.view_is)) c.publishers.invariant.none)
