use Rattle.std.proofs.Common.{ℕ, ◌-◌, ◌<◌, length, Ok}
use Rattle.gr_model.specs.Net.{numbers, numbers_from}
use Rattle.gr_model.specs.World.{sweep_for, in_turn}
use Rattle.gr_world.specs.Seen.{net_in, world_of}
use Rattle.gr_world.specs.Of.{LanesFit}
use Rattle.gr_world.specs.Ran.{Ran}
use Rattle.gr_world.specs.Disk.{UsesDisk}
use Rattle.gr_world.specs.Moments.{CallsLanes}
use Rattle.gr_world.specs.Sweeps.{IsDue}
use Rattle.gr_world.proofs.Composed.{Leads}
use Rattle.gr_world.proofs.Ending.{SoFar}
use Rattle.gr_world.proofs.world.World.sweep_publishers.Given as goal

-- the publishers so far were swept, so none of their logs was broken, and what is left are those behind them
abbrev pub invariant-publishers : goal.invariant-publishers
invariant-publishers g l = record {
  ran : Ran l.initial.self l.self (Ok l.lines);
  disk : UsesDisk (g.D.Disk.faultless l.initial.disk) (g.D.Disk.faultless l.disk) (g.D.Disk.faults l.initial.disk) (g.D.Disk.stops l.initial.disk) (g.D.Disk.faults l.disk) (g.D.Disk.stops l.disk) (Ok l.lines);
  lanes : LanesFit (g.D.Disk.lane_of l.disk) l.self;
  leads : Leads (sweep_for (net_in l.initial.self)) (numbers_from l.p (length l.initial.self.topo.publishers - l.p)) l.self l.lines (in_turn (sweep_for (net_in l.initial.self)) (numbers (length l.initial.self.topo.publishers)) (world_of l.initial.self));
  none : (q : ℕ) → q < l.p → q < length l.initial.self.topo.publishers → IsDue l.initial.self q → ⊥;
  done : SoFar (sweep_for (net_in l.initial.self)) (numbers_from 0 l.p) l.initial.self l.self;
  calls : CallsLanes l.initial.self.topo (g.D.Disk.lane_of l.initial.disk) (g.D.Disk.lane_of l.disk);
}
