use Rattle.gr_world.specs.Disk.{KeepsCounts}
use Rattle.gr_world.specs.Starting.{CrashesLanes}
use Rattle.gr_world.proofs.starting.crash_lanes.Given as goal

-- the lanes of the publishers so far that are at the broker have crashed
abbrev pub invariant-publishers : goal.invariant-publishers
invariant-publishers g l = record {
  crashes : CrashesLanes l.topology l.b l.p (g.D.Disk.lane_of l.initial.disk) (g.D.Disk.lane_of l.disk);
  counts : KeepsCounts g.D.Disk.faultless g.D.Disk.faults g.D.Disk.stops l.initial.disk l.disk;
}
