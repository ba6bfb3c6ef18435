use Rattle.std.proofs.Common.{◌≡◌, length, map, drop}
use Rattle.std.specs.Prelude.{flat_map}
use Rattle.gr_node.specs.Seen.{seen}
use Rattle.gr_node.specs.Of.{OthersStay}
use Rattle.gr_node.specs.Keeps.{IsServing}
use Rattle.gr_node.specs.Plan.{calls, wake_calls}
use Rattle.gr_node.specs.Went.{outside}
use Rattle.gr_node.proofs.Within.{Within, WithinKept, wakes_of}
use Rattle.gr_node.proofs.turning.wake_hosted.Given as goal

-- the brokers before this one were woken
abbrev pub invariant-brokers : goal.invariant-brokers
invariant-brokers g l = record {
  goes : Within l.site.topo.now l.site.hosted.now g.P.Post.tells (map calls (flat_map (wake_calls (length l.site.topo.now.publishers)) l.site.hosted.now))
      (wakes_of (length l.site.topo.now.publishers) (drop l.b-index l.site.hosted.now))
      (seen l.initial.node) (seen l.node)
      (outside (g.K.Sink.taken l.initial.sink) l.initial.page.held (g.P.Post.journal l.initial.post))
      (outside (g.K.Sink.taken l.sink) l.page.held (g.P.Post.journal l.post));
  serving : IsServing l.site.topo.now l.site.hosted.now g.D.Disk.tells (g.D.Disk.lane_of l.disk) (seen l.node);
  others : g.D.Disk.tells → OthersStay l.site.topo.now l.site.hosted.now (g.D.Disk.lane_of l.initial.disk) (g.D.Disk.lane_of l.disk);
  kept : g.D.Disk.tells → WithinKept l.site.topo.now l.site.hosted.now (map calls (flat_map (wake_calls (length l.site.topo.now.publishers)) l.site.hosted.now))
      (wakes_of (length l.site.topo.now.publishers) (drop l.b-index l.site.hosted.now))
      (seen l.initial.node) (seen l.node) (g.D.Disk.lane_of l.initial.disk) (g.D.Disk.lane_of l.disk);
  faults : g.D.Disk.faults l.disk ≡ g.D.Disk.faults l.initial.disk;
  stops : g.D.Disk.stops l.disk ≡ g.D.Disk.stops l.initial.disk;
  sink : g.K.Sink.faults l.sink ≡ g.K.Sink.faults l.initial.sink;
  post : g.P.Post.faults l.post ≡ g.P.Post.faults l.initial.post;
}
