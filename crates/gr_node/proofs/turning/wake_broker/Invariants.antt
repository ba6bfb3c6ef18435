use Rattle.std.proofs.Common.{◌≡◌, length, map}
use Rattle.gr_node.specs.Seen.{seen}
use Rattle.gr_node.specs.Of.{OthersStay}
use Rattle.gr_node.specs.Keeps.{IsServing}
use Rattle.gr_node.specs.Plan.{calls, wake_calls}
use Rattle.gr_node.specs.Went.{outside}
use Rattle.gr_node.proofs.Within.{Within, WithinKept, wakes_from}
use Rattle.gr_node.proofs.turning.wake_broker.Given as goal

-- the broker was woken for the publishers before this one
abbrev pub invariant-publishers : goal.invariant-publishers
invariant-publishers g l = record {
  goes : Within l.site.topo.now l.site.hosted.now g.P.Post.tells (map calls (wake_calls (length l.site.topo.now.publishers) l.b)) (wakes_from l.b l.p (length l.site.topo.now.publishers))
      (seen l.initial.node) (seen l.node)
      (outside (g.K.Sink.taken l.initial.sink) l.initial.page.held (g.P.Post.journal l.initial.post))
      (outside (g.K.Sink.taken l.sink) l.page.held (g.P.Post.journal l.post));
  serving : IsServing l.site.topo.now l.site.hosted.now g.D.Disk.tells (g.D.Disk.lane_of l.disk) (seen l.node);
  others : g.D.Disk.tells → OthersStay l.site.topo.now l.site.hosted.now (g.D.Disk.lane_of l.initial.disk) (g.D.Disk.lane_of l.disk);
  kept : g.D.Disk.tells → WithinKept l.site.topo.now l.site.hosted.now (map calls (wake_calls (length l.site.topo.now.publishers) l.b)) (wakes_from l.b l.p (length l.site.topo.now.publishers))
      (seen l.initial.node) (seen l.node) (g.D.Disk.lane_of l.initial.disk) (g.D.Disk.lane_of l.disk);
  faults : g.D.Disk.faults l.disk ≡ g.D.Disk.faults l.initial.disk;
  stops : g.D.Disk.stops l.disk ≡ g.D.Disk.stops l.initial.disk;
  sink : g.K.Sink.faults l.sink ≡ g.K.Sink.faults l.initial.sink;
  post : g.P.Post.faults l.post ≡ g.P.Post.faults l.initial.post;
}
