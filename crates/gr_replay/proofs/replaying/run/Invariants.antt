use Rattle.std.proofs.Common.{◌≡◌, ◌≤◌, ◌++◌, take}
use Rattle.gr_model.specs.Orders.{AreOrdersOf}
use Rattle.gr_model.specs.World.{run_all, run_from}
use Rattle.gr_world.specs.Seen.{net_in, world_of}
use Rattle.gr_world.specs.Of.{LanesFit}
use Rattle.gr_out.specs.Page.{TakesBut}
use Rattle.gr_replay.specs.Going.{IsGoing, orders_after, text_from}
use Rattle.gr_replay.proofs.replaying.run.Given as goal

-- the world is where the steps so far lead, the lists are what their lines leave, and what they tell was taken but for what the page holds
abbrev pub invariant-steps : goal.invariant-steps
invariant-steps g l = record {
  going : IsGoing l.world;
  topology : l.world.topo ≡ l.initial.world.topo;
  lanes : LanesFit (g.D.Disk.lane_of l.disk) l.world;
  leads : world_of l.world ≡ (run_all (net_in l.initial.world) (world_of l.initial.world) (take l.line-index l.steps)).world;
  orders : AreOrdersOf l.world.topo l.orders;
  left : l.orders ≡ orders_after l.initial.orders (run_from (net_in l.initial.world) (world_of l.initial.world) (take l.line-index l.steps));
  put : TakesBut (g.K.Sink.taken l.initial.sink) (g.K.Sink.taken l.sink) (l.initial.page.held ++ text_from l.initial.world l.initial.orders (take l.line-index l.steps)) l.page.held;
  same : g.K.Sink.faults l.sink ≡ g.K.Sink.faults l.initial.sink;
  faults : g.D.Disk.faults l.initial.disk ≤ g.D.Disk.faults l.disk;
  stops : g.D.Disk.stops l.initial.disk ≤ g.D.Disk.stops l.disk;
  faultless : g.D.Disk.faultless l.initial.disk → g.D.Disk.faultless l.disk;
}
