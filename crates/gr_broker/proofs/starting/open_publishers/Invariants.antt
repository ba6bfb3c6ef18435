use Rattle.std.proofs.Common.{◌≡◌, map}
use Rattle.gr_out.specs.Stops.{StaysFaultless}
use Rattle.gr_broker_relay.specs.Held.{held_view}
use Rattle.gr_broker.specs.Starting.{AreStarted, AreOpened, TouchesLanes}
use Rattle.gr_broker.proofs.starting.open_publishers.Given as goal

-- the publishers so far were started, and the disk has failed at none of them
abbrev pub invariant-publishers : goal.invariant-publishers
invariant-publishers g l = record {
  started : AreStarted l.topo l.b l.p (map held_view l.held.items) (map (λ held. held.log) l.held.items) l.lines;
  opens : g.D.Disk.tells → AreOpened l.topo (map (λ held. held.log) l.held.items) (g.D.Disk.lane_of l.initial.disk) (g.D.Disk.lane_of l.disk);
  touches : g.D.Disk.tells → TouchesLanes l.topo l.b l.p (g.D.Disk.lane_of l.initial.disk) (g.D.Disk.lane_of l.disk);
  faults : g.D.Disk.faults l.disk ≡ g.D.Disk.faults l.initial.disk;
  stops : g.D.Disk.stops l.disk ≡ g.D.Disk.stops l.initial.disk;
  faultless : StaysFaultless (g.D.Disk.faultless l.initial.disk) (g.D.Disk.faultless l.disk) (g.D.Disk.faults l.initial.disk) (g.D.Disk.faults l.disk);
}
