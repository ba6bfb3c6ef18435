use Rattle.std.proofs.Common.{ℕ, ◌-◌, ◌<◌, ◌≤◌, length, Ok}
use Rattle.gr_model.specs.Net.{numbers_from}
use Rattle.gr_model.specs.World.{wake_for, wake_all}
use Rattle.gr_world.specs.Seen.{net_in, world_of}
use Rattle.gr_world.specs.Of.{LanesFit}
use Rattle.gr_world.specs.Ran.{Ran}
use Rattle.gr_world.specs.Disk.{UsesDisk, IsWakeBarred}
use Rattle.gr_world.specs.Moments.{CallsLanes}
use Rattle.gr_world.proofs.Composed.{Leads}
use Rattle.gr_world.proofs.Barring.{AsBefore}
use Rattle.gr_world.proofs.Ending.{SoFar}
use Rattle.gr_world.proofs.world.World.wake_each.Given as goal

-- what was done for the publishers so far is a run, and with what is left it is the whole; none of them was barred, and what is known of the others is as it was
abbrev pub invariant-publishers : goal.invariant-publishers
invariant-publishers g l = record {
  leads : Leads (λ u p. wake_for (net_in l.initial.self) u l.b p) (numbers_from l.p (length l.initial.self.topo.publishers - l.p)) l.self l.lines (wake_all (net_in l.initial.self) (world_of l.initial.self) l.b);
  ran : Ran l.initial.self l.self (Ok l.lines);
  disk : UsesDisk (g.D.Disk.faultless l.initial.disk) (g.D.Disk.faultless l.disk) (g.D.Disk.faults l.initial.disk) (g.D.Disk.stops l.initial.disk) (g.D.Disk.faults l.disk) (g.D.Disk.stops l.disk) (Ok l.lines);
  lanes : LanesFit (g.D.Disk.lane_of l.disk) l.self;
  before : (q : ℕ) → l.p ≤ q → AsBefore l.b q l.initial.self l.self;
  none : (q : ℕ) → q < l.p → IsWakeBarred l.initial.self l.b q → ⊥;
  done : SoFar (λ u p. wake_for (net_in l.initial.self) u l.b p) (numbers_from 0 l.p) l.initial.self l.self;
  calls : CallsLanes l.initial.self.topo (g.D.Disk.lane_of l.initial.disk) (g.D.Disk.lane_of l.disk);
}
