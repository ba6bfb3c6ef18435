-- The call is one of the host, taken up by the world
use Rattle.std.proofs.Common.{sym, ap}
use Rattle.gr_publog.specs.Views.{lanes_at}
use Rattle.gr_broker.specs.Lanes.{log_lane, either_stopped}
use Rattle.gr_broker.specs.Told.{log_answer}
use Rattle.gr_world.specs.contracts.world.World.{the_view}
use Rattle.gr_world.specs.Of.{LanesFit}
use Rattle.gr_world.specs.Ran.{Ran}
use Rattle.gr_world.specs.Taking.{put_in}
use Rattle.gr_world.proofs.Answers.{ran_on, reopen_follows}
use Rattle.gr_world.proofs.Called.{Site, read_fits, read_stands, site_unstopped}
use Rattle.gr_world.proofs.Late.{JoinsAt, JoinsOn, does_join, ran_join, lanes_join, calls_join, reopens_join, unchanged_join, failed_join}
use Rattle.gr_world.proofs.world.World.join_at_host.Given.{Over}
use Rattle.gr_world.proofs.world.World.join_at_host.Goals as goal

pub join-answer-requires-clause-fits : goal.join-answer-requires-clause-fits
join-answer-requires-clause-fits g c =
    read_fits (the_view c.self.inside) c.args.self.now c.host-host.result c.index_mut-broker.result.now c.self.view_is c.requires.fits c.host-host.ensures.broker c.index_mut-broker.ensures.value

pub join-answer-requires-clause-stands : goal.join-answer-requires-clause-stands
join-answer-requires-clause-stands g c = λ tells.
    read_stands (the_view c.self.inside) c.args.self.now c.host-host.result c.index_mut-broker.result.now (g.D.Disk.lane_of c.args.disk.now) c.self.view_is c.requires.fits c.requires.«open» c.requires.lanes
    c.host-host.ensures.broker c.index_mut-broker.ensures.value

-- The broker that is read, and what its call gives

site : (g : Over) (c : goal.After-take_answer g) → Site (the_view c.self.inside) c.args.self.now c.host-host.result c.args.p c.index_mut-broker.result.now
site g c = record {
  same = c.self.view_is;
  fits = c.requires.fits;
  is_open = c.requires.«open»;
  publisher = c.requires.publisher;
  broker = c.host-host.ensures.broker;
  read = c.index_mut-broker.ensures.value;
}

gives : (g : Over) (c : goal.After-take_answer g) → JoinsAt c.self.inside.topology c.index_mut-broker.result.now c.args.p c.args.s c.self.inside.clock c.join-answer.new.self c.join-answer.result
gives g c =
    let e = c.join-answer.ensures in
    record { told = e.told; leaves = e.leaves; log = e.log; fits = e.fits; reopen = e.reopen }

ran : (g : Over) (c : goal.After-take_answer g) → Ran c.args.self.now (put_in (the_view c.self.inside) c.host-host.result c.join-answer.new.self c.take_answer.new.frames) c.take_answer.result
ran g c =
    ran_join (the_view c.self.inside) c.args.self.now c.host-host.result c.args.p c.args.s c.index_mut-broker.result.now c.join-answer.new.self c.take_answer.new.frames
    c.join-answer.result c.take_answer.result (site g c) (sym c.host-host.ensures.host) c.every_topology_is_a_tree.ensures.tree c.requires.late (gives g c) c.take_answer.ensures.follows c.take_answer.ensures.takes

on_lanes : (g : Over) (c : goal.After-take_answer g) → JoinsOn c.index_mut-broker.result.now c.args.p c.args.s c.self.inside.clock c.join-answer.new.self (g.D.Disk.lane_of c.args.disk.now) (g.D.Disk.lane_of c.join-answer.new.disk) c.join-answer.result
on_lanes g c =
    let e = c.join-answer.ensures in
    record {
      lane = e.lane g.met.D.SimDisk.told;
      idle = λ h n. ap (λ d. g.D.Disk.lane_of d n) (e.uses.disk.idle (ap log_answer h));
      untouched = λ h n. ap (λ d. g.D.Disk.lane_of d n) (e.untouched h);
      others = e.uses.disk.others g.met.D.SimDisk.told;
      stands = e.stands g.met.D.SimDisk.told;
    }

lanes : (g : Over) (c : goal.After-take_answer g) → LanesFit (g.D.Disk.lane_of c.join-answer.new.disk) (put_in (the_view c.self.inside) c.host-host.result c.join-answer.new.self c.take_answer.new.frames)
lanes g c =
    lanes_join (the_view c.self.inside) c.args.self.now c.host-host.result c.args.p c.args.s c.index_mut-broker.result.now c.join-answer.new.self c.take_answer.new.frames
    c.join-answer.result c.take_answer.result (site g c) (sym c.host-host.ensures.host) c.every_topology_is_a_tree.ensures.tree c.requires.late (gives g c) c.take_answer.ensures.follows c.take_answer.ensures.takes
    (g.D.Disk.lane_of c.args.disk.now) (g.D.Disk.lane_of c.join-answer.new.disk) c.requires.lanes (on_lanes g c)

-- What the world answers and leaves

pub returns-clause-does : goal.returns-clause-does
returns-clause-does g c =
    does_join (the_view c.self.inside) c.args.self.now c.host-host.result c.args.p c.args.s c.index_mut-broker.result.now c.join-answer.new.self c.take_answer.new.frames
    c.join-answer.result c.take_answer.result (site g c) (sym c.host-host.ensures.host) c.every_topology_is_a_tree.ensures.tree c.requires.late (gives g c) c.take_answer.ensures.follows c.take_answer.ensures.takes

pub returns-clause-ran : goal.returns-clause-ran
returns-clause-ran g c = ran g c

pub returns-clause-reopen : goal.returns-clause-reopen
returns-clause-reopen g c =
    reopens_join (the_view c.self.inside) c.args.self.now c.host-host.result c.args.p c.args.s c.index_mut-broker.result.now c.join-answer.new.self c.take_answer.new.frames
    c.join-answer.result c.take_answer.result (site g c) (sym c.host-host.ensures.host) c.every_topology_is_a_tree.ensures.tree c.requires.late (gives g c) c.take_answer.ensures.follows c.take_answer.ensures.takes

pub returns-clause-left : goal.returns-clause-left
returns-clause-left g c = record {
  unchanged = λ h. (
    unchanged_join (the_view c.self.inside) c.args.self.now c.host-host.result c.args.p c.args.s c.index_mut-broker.result.now c.join-answer.new.self c.take_answer.new.frames
        c.join-answer.result c.take_answer.result (site g c) (sym c.host-host.ensures.host) c.every_topology_is_a_tree.ensures.tree c.requires.late (gives g c) c.take_answer.ensures.follows c.take_answer.ensures.takes h,
    c.join-answer.ensures.uses.disk.idle (ap log_answer (reopen_follows c.join-answer.result c.take_answer.result c.take_answer.ensures.follows h)),
  );
  failed =
      failed_join (the_view c.self.inside) c.args.self.now c.host-host.result c.args.p c.args.s c.index_mut-broker.result.now c.join-answer.new.self c.take_answer.new.frames
      c.join-answer.result c.take_answer.result (site g c) (sym c.host-host.ensures.host) c.every_topology_is_a_tree.ensures.tree c.requires.late (gives g c) c.take_answer.ensures.follows c.take_answer.ensures.takes;
}

pub returns-clause-disk : goal.returns-clause-disk
returns-clause-disk g c =
    let e = c.join-answer.ensures in
    ran_on (g.D.Disk.faultless c.args.disk.now) (g.D.Disk.faultless c.join-answer.new.disk) (g.D.Disk.faults c.args.disk.now) (g.D.Disk.stops c.args.disk.now)
    (g.D.Disk.faults c.join-answer.new.disk) (g.D.Disk.stops c.join-answer.new.disk) (either_stopped (lanes_at (g.D.Disk.lane_of c.join-answer.new.disk) (log_lane c.args.p))) c.join-answer.result c.take_answer.result
    c.take_answer.ensures.follows e.uses.disk.tally (e.uses.disk.causes g.met.D.SimDisk.told) e.uses.disk.faultless_stays
    (site_unstopped (the_view c.self.inside) c.args.self.now c.host-host.result c.args.p c.index_mut-broker.result.now (site g c) c.join-answer.new.self c.take_answer.new.frames c.take_answer.result
    (g.D.Disk.lane_of c.join-answer.new.disk) c.every_topology_is_a_tree.ensures.tree (ran g c) (lanes g c))

pub returns-clause-lanes : goal.returns-clause-lanes
returns-clause-lanes g c = lanes g c

pub returns-clause-calls : goal.returns-clause-calls
returns-clause-calls g c =
    let told = g.met.D.SimDisk.told in
    calls_join (the_view c.self.inside) c.args.self.now c.host-host.result c.args.p c.args.s c.index_mut-broker.result.now c.join-answer.new.self c.take_answer.new.frames
    c.join-answer.result c.take_answer.result (site g c) (sym c.host-host.ensures.host) c.every_topology_is_a_tree.ensures.tree c.requires.late (gives g c) c.take_answer.ensures.follows c.take_answer.ensures.takes
    c.stands_read.ensures (g.D.Disk.lane_of c.args.disk.now) (g.D.Disk.lane_of c.join-answer.new.disk) c.requires.lanes (on_lanes g c) (c.join-answer.ensures.uses.goes_on told)
