use Rattle.std.proofs.Common.{◌≡◌, ◌≤◌, false, length, drop, vec_len}
use Rattle.gr_model.specs.NetOf.{net_of}
use Rattle.gr_node.specs.Seen.{seen}
use Rattle.gr_node.specs.Of.{OthersStay}
use Rattle.gr_node.specs.Turns.{IsFirst}
use Rattle.gr_node.proofs.SoFar.{KeptSoFar}
use Rattle.gr_trace.specs.Gathered.{IsBetween}
use Rattle.gr_trace.proofs.Turns.{TracedSoFar}
use Rattle.gr_trace.proofs.running.run.Given as goal

-- all that came so far was taken and written
abbrev pub invariant-turns : goal.invariant-turns
invariant-turns g l = record {
  goes : TracedSoFar l.site.topo.now l.site.hosted.now g.P.Post.tells l.steps l.next l.counter (seen l.fn.node) (seen l.node)
      (g.K.Sink.taken l.fn.sink) (g.K.Sink.taken l.sink) (g.P.Post.journal l.fn.post) (g.P.Post.journal l.post)
      (λ came. KeptSoFar g.D.Disk.tells l.site.topo.now l.site.hosted.now l.steps (seen l.fn.node) (g.D.Disk.lane_of l.fn.disk) (g.D.Disk.lane_of l.disk) came false);
  within : l.next ≤ length l.steps;
  first : IsFirst (net_of l.site.topo.now) l.site.hosted.now (drop l.next l.steps);
  between : IsBetween l.site.topo.now l.site.hosted.now g.D.Disk.tells (g.D.Disk.lane_of l.disk) (seen l.node) l.gathered l.page.held;
  others : g.D.Disk.tells → OthersStay l.site.topo.now l.site.hosted.now (g.D.Disk.lane_of l.fn.disk) (g.D.Disk.lane_of l.disk);
  faults : g.D.Disk.faults l.disk ≡ g.D.Disk.faults l.fn.disk;
  stops : g.D.Disk.stops l.disk ≡ g.D.Disk.stops l.fn.disk;
  sink : g.K.Sink.faults l.sink ≡ g.K.Sink.faults l.fn.sink;
  post : g.P.Post.faults l.post ≡ g.P.Post.faults l.fn.post;
  piece : vec_len l.piece ≡ 65535;
}
