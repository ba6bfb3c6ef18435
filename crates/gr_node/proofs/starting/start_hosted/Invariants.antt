use Rattle.std.proofs.Common.{◌≡◌, ◌++◌, take, flat_map}
use Rattle.gr_out.specs.Page.{TakesBut}
use Rattle.gr_model.specs.Orders.{fed, orders_of}
use Rattle.gr_node.specs.Seen.{seen}
use Rattle.gr_node.specs.Starting.{start_lines}
use Rattle.gr_node.specs.Lasting.{StartsKeep}
use Rattle.gr_node.proofs.StartingNodes.{HaveBegun}
use Rattle.gr_node.proofs.StartingLanes.{HaveFound}
use Rattle.gr_node.proofs.StartingTold.{told_by}
use Rattle.gr_node.proofs.starting.start_hosted.Given as goal

-- the brokers so far have started and their lines are heard and put, and no fault was counted
abbrev pub invariant-brokers : goal.invariant-brokers
invariant-brokers g l = record {
  begun : HaveBegun l.site.topo.now (take l.b-index l.site.hosted.now) (seen l.node);
  found : g.D.Disk.tells → HaveFound l.site.topo.now (take l.b-index l.site.hosted.now) (seen l.node) (g.D.Disk.lane_of l.initial.disk) (g.D.Disk.lane_of l.disk);
  kept : g.D.Disk.tells → StartsKeep l.site.topo.now.late (g.D.Disk.lane_of l.initial.disk) (g.D.Disk.lane_of l.disk);
  put : TakesBut (g.K.Sink.taken l.initial.sink) (g.K.Sink.taken l.sink) (l.initial.page.held ++ told_by l.site.topo.now (seen l.node) (take l.b-index l.site.hosted.now)) l.page.held;
  heard : (seen l.node).orders ≡ fed (orders_of l.site.topo.now) (flat_map (start_lines l.site.topo.now (seen l.node)) (take l.b-index l.site.hosted.now));
  faults : g.D.Disk.faults l.disk ≡ g.D.Disk.faults l.initial.disk;
  stops : g.D.Disk.stops l.disk ≡ g.D.Disk.stops l.initial.disk;
  same : g.K.Sink.faults l.sink ≡ g.K.Sink.faults l.initial.sink;
}
