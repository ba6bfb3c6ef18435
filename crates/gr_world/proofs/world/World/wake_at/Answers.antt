-- The call is one of the broker, taken up by the world
use Rattle.std.proofs.Common.{◌≡◌, ◌<◌, true, length, ap, subst, sym}
use Rattle.gr_publog.specs.Views.{lanes_at}
use Rattle.gr_broker.specs.Lanes.{log_lane, either_stopped}
use Rattle.gr_broker.specs.Seen.{log_in, is_broken}
use Rattle.gr_world.specs.contracts.world.World.{the_view}
use Rattle.gr_world.specs.Of.{LanesFit}
use Rattle.gr_world.specs.Seen.{WorldView}
use Rattle.gr_world.specs.Ran.{Ran}
use Rattle.gr_world.specs.Taking.{put_in}
use Rattle.gr_world.proofs.Answers.{ran_on}
use Rattle.gr_world.proofs.Called.{Site, read_stands, site_unstopped}
use Rattle.gr_world.proofs.Woken.{Wakes, WakesOn, does_wake, ran_wake, lanes_wake, calls_wake, reopens_wake, ends_wake, apart_wake}
use Rattle.gr_world.proofs.world.World.wake_at.Given.{Over}
use Rattle.gr_world.proofs.world.World.wake_at.Goals as goal

pub wake-answer-requires-clause-stands : goal.wake-answer-requires-clause-stands
wake-answer-requires-clause-stands g c = λ tells.
    read_stands (the_view c.self.inside) c.args.self.now c.args.b c.index_mut-broker.result.now (g.D.Disk.lane_of c.args.disk.now) c.self.view_is c.requires.fits c.requires.«open» c.requires.lanes
    (subst (λ (u : WorldView). c.args.b < length u.topo.brokers) (sym c.self.view_is) c.requires.broker) c.index_mut-broker.ensures.value

-- The broker that is read, and what its call gives

site : (g : Over) (c : goal.After-take_answer g) → Site (the_view c.self.inside) c.args.self.now c.args.b c.args.p c.index_mut-broker.result.now
site g c = record {
  same = c.self.view_is;
  fits = c.requires.fits;
  is_open = c.requires.«open»;
  publisher = c.requires.publisher;
  broker = subst (λ (u : WorldView). c.args.b < length u.topo.brokers) (sym c.self.view_is) c.requires.broker;
  read = c.index_mut-broker.ensures.value;
}

gives : (g : Over) (c : goal.After-take_answer g) → Wakes c.self.inside.topology c.index_mut-broker.result.now c.args.p c.self.inside.clock c.wake-answer.new.self c.wake-answer.result
gives g c =
    let e = c.wake-answer.ensures in
    record { told = e.told; leaves = e.leaves; log = e.log; fits = e.fits; reopen = e.reopen }

ran : (g : Over) (c : goal.After-take_answer g) → Ran c.args.self.now (put_in (the_view c.self.inside) c.args.b c.wake-answer.new.self c.take_answer.new.frames) c.take_answer.result
ran g c =
    ran_wake (the_view c.self.inside) c.args.self.now c.args.b c.args.p c.index_mut-broker.result.now c.wake-answer.new.self c.take_answer.new.frames
    c.wake-answer.result c.take_answer.result (site g c) c.every_topology_is_a_tree.ensures.tree (gives g c) c.take_answer.ensures.follows c.take_answer.ensures.takes

-- a log that the disk has failed is not written to any more
closed : (g : Over) (c : goal.After-take_answer g) → is_broken (log_in c.index_mut-broker.result.now c.args.p) ≡ true → c.wake-answer.new.disk ≡ c.args.disk.now
closed g c = c.wake-answer.ensures.closed

on_lanes : (g : Over) (c : goal.After-take_answer g) → WakesOn c.self.inside.topology c.index_mut-broker.result.now c.args.p c.self.inside.clock c.wake-answer.new.self (g.D.Disk.lane_of c.args.disk.now) (g.D.Disk.lane_of c.wake-answer.new.disk) c.wake-answer.result
on_lanes g c =
    let e = c.wake-answer.ensures in
    record {
      lane = e.lane g.met.D.SimDisk.told;
      below = λ h n. ap (λ d. g.D.Disk.lane_of d n) (e.below h);
      broken = λ h n. ap (λ d. g.D.Disk.lane_of d n) (closed g c h);
      others = e.uses.disk.others g.met.D.SimDisk.told;
      stands = e.stands g.met.D.SimDisk.told;
    }

lanes : (g : Over) (c : goal.After-take_answer g) → LanesFit (g.D.Disk.lane_of c.wake-answer.new.disk) (put_in (the_view c.self.inside) c.args.b c.wake-answer.new.self c.take_answer.new.frames)
lanes g c =
    lanes_wake (the_view c.self.inside) c.args.self.now c.args.b c.args.p c.index_mut-broker.result.now c.wake-answer.new.self c.take_answer.new.frames
    c.wake-answer.result c.take_answer.result (site g c) c.every_topology_is_a_tree.ensures.tree (gives g c) c.take_answer.ensures.follows c.take_answer.ensures.takes
    (g.D.Disk.lane_of c.args.disk.now) (g.D.Disk.lane_of c.wake-answer.new.disk) c.requires.lanes (on_lanes g c)

-- What the world answers and leaves

pub returns-clause-does : goal.returns-clause-does
returns-clause-does g c =
    does_wake (the_view c.self.inside) c.args.self.now c.args.b c.args.p c.index_mut-broker.result.now c.wake-answer.new.self c.take_answer.new.frames
    c.wake-answer.result c.take_answer.result (site g c) c.every_topology_is_a_tree.ensures.tree (gives g c) c.take_answer.ensures.follows c.take_answer.ensures.takes

pub returns-clause-ran : goal.returns-clause-ran
returns-clause-ran g c = ran g c

pub returns-clause-disk : goal.returns-clause-disk
returns-clause-disk g c =
    let e = c.wake-answer.ensures in
    ran_on (g.D.Disk.faultless c.args.disk.now) (g.D.Disk.faultless c.wake-answer.new.disk) (g.D.Disk.faults c.args.disk.now) (g.D.Disk.stops c.args.disk.now)
    (g.D.Disk.faults c.wake-answer.new.disk) (g.D.Disk.stops c.wake-answer.new.disk) (either_stopped (lanes_at (g.D.Disk.lane_of c.wake-answer.new.disk) (log_lane c.args.p))) c.wake-answer.result c.take_answer.result
    c.take_answer.ensures.follows e.uses.disk.tally (e.uses.disk.causes g.met.D.SimDisk.told) e.uses.disk.faultless_stays
    (site_unstopped (the_view c.self.inside) c.args.self.now c.args.b c.args.p c.index_mut-broker.result.now (site g c) c.wake-answer.new.self c.take_answer.new.frames c.take_answer.result
    (g.D.Disk.lane_of c.wake-answer.new.disk) c.every_topology_is_a_tree.ensures.tree (ran g c) (lanes g c))

pub returns-clause-lanes : goal.returns-clause-lanes
returns-clause-lanes g c = lanes g c

pub returns-clause-reopen : goal.returns-clause-reopen
returns-clause-reopen g c =
    reopens_wake (the_view c.self.inside) c.args.self.now c.args.b c.args.p c.index_mut-broker.result.now c.wake-answer.new.self c.take_answer.new.frames
    c.wake-answer.result c.take_answer.result (site g c) c.every_topology_is_a_tree.ensures.tree (gives g c) c.take_answer.ensures.follows c.take_answer.ensures.takes

pub returns-clause-ends : goal.returns-clause-ends
returns-clause-ends g c =
    ends_wake (the_view c.self.inside) c.args.self.now c.args.b c.args.p c.index_mut-broker.result.now c.wake-answer.new.self c.take_answer.new.frames
    c.wake-answer.result c.take_answer.result (site g c) c.every_topology_is_a_tree.ensures.tree (gives g c) c.take_answer.ensures.follows c.take_answer.ensures.takes

pub returns-clause-apart : goal.returns-clause-apart
returns-clause-apart g c =
    apart_wake (the_view c.self.inside) c.args.self.now c.args.b c.args.p c.index_mut-broker.result.now c.wake-answer.new.self c.take_answer.new.frames
    c.wake-answer.result c.take_answer.result (site g c) c.every_topology_is_a_tree.ensures.tree (gives g c) c.take_answer.ensures.follows c.take_answer.ensures.takes

pub returns-clause-calls : goal.returns-clause-calls
returns-clause-calls g c =
    let told = g.met.D.SimDisk.told in
    calls_wake (the_view c.self.inside) c.args.self.now c.args.b c.args.p c.index_mut-broker.result.now c.wake-answer.new.self c.take_answer.new.frames
    c.wake-answer.result c.take_answer.result (site g c) c.every_topology_is_a_tree.ensures.tree (gives g c) c.take_answer.ensures.follows c.take_answer.ensures.takes
    c.stands_read.ensures (g.D.Disk.lane_of c.args.disk.now) (g.D.Disk.lane_of c.wake-answer.new.disk) c.requires.lanes (on_lanes g c) (c.wake-answer.ensures.uses.goes_on told)
