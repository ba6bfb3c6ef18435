use Rattle.std.proofs.Common.{drop, take, Ok}
use Rattle.gr_model.specs.World.{wake_up, in_turn}
use Rattle.gr_world.specs.Seen.{net_in, world_of}
use Rattle.gr_world.specs.Of.{LanesFit}
use Rattle.gr_world.specs.Ran.{Ran}
use Rattle.gr_world.specs.Disk.{UsesDisk}
use Rattle.gr_world.specs.Moments.{CallsLanes}
use Rattle.gr_world.specs.Sweeps.{HasHost, IsDue}
use Rattle.gr_world.proofs.Composed.{Leads}
use Rattle.gr_world.proofs.Ending.{SoFar}
use Rattle.gr_world.proofs.world.World.wake_brokers.Given as goal

-- the brokers so far were woken, and what is left are those behind them; among these is the host, where its log is to be marked and is broken
abbrev pub invariant-brokers : goal.invariant-brokers
invariant-brokers g l = record {
  ran : Ran l.initial.self l.self (Ok l.lines);
  disk : UsesDisk (g.D.Disk.faultless l.initial.disk) (g.D.Disk.faultless l.disk) (g.D.Disk.faults l.initial.disk) (g.D.Disk.stops l.initial.disk) (g.D.Disk.faults l.disk) (g.D.Disk.stops l.disk) (Ok l.lines);
  lanes : LanesFit (g.D.Disk.lane_of l.disk) l.self;
  leads : Leads (wake_up (net_in l.initial.self) l.p) (drop l.b-index l.brokers) l.self l.lines (in_turn (wake_up (net_in l.initial.self) l.p) l.brokers (world_of l.initial.self));
  due : IsDue l.initial.self l.p → HasHost l.initial.self l.p l.brokers → HasHost l.initial.self l.p (drop l.b-index l.brokers);
  done : SoFar (wake_up (net_in l.initial.self) l.p) (take l.b-index l.brokers) l.initial.self l.self;
  calls : CallsLanes l.initial.self.topo (g.D.Disk.lane_of l.initial.disk) (g.D.Disk.lane_of l.disk);
}
