use Rattle.std.proofs.Common.{◌≡◌}
use Rattle.gr_out.specs.Stops.{StaysFaultless}
use Rattle.gr_world.specs.Starting.{HaveStarted, HaveOpened}
use Rattle.gr_world.proofs.Brokers.{Untouched}
use Rattle.gr_world.proofs.starting.start_brokers.Given as goal

-- the brokers so far have started, and the disk has failed at none of them
abbrev pub invariant-brokers : goal.invariant-brokers
invariant-brokers g l = record {
  started : HaveStarted l.topology l.b l.brokers.items l.told;
  opened : HaveOpened l.topology l.b l.brokers.items (g.D.Disk.lane_of l.initial.disk) (g.D.Disk.lane_of l.disk);
  touched : Untouched l.topology l.b (g.D.Disk.lane_of l.initial.disk) (g.D.Disk.lane_of l.disk);
  faults : g.D.Disk.faults l.disk ≡ g.D.Disk.faults l.initial.disk;
  stops : g.D.Disk.stops l.disk ≡ g.D.Disk.stops l.initial.disk;
  faultless : StaysFaultless (g.D.Disk.faultless l.initial.disk) (g.D.Disk.faultless l.disk) (g.D.Disk.faults l.initial.disk) (g.D.Disk.faults l.disk);
}
