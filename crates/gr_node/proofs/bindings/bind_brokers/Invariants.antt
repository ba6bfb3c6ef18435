-- the brokers so far are bound, and no fault was counted
use Rattle.std.proofs.Common.{◌≡◌, length}
use Rattle.gr_model.specs.Net.{numbers}
use Rattle.gr_node.proofs.BoundNodes.{BoundSoFar, brokers_from}
use Rattle.gr_node.proofs.bindings.bind_brokers.Given as goal

abbrev pub invariant-brokers : goal.invariant-brokers
invariant-brokers g l = record {
  bound : BoundSoFar l.site.topo.now l.site.hosted.now g.P.Post.tells (numbers (length l.site.topo.now.brokers)) (brokers_from l.site.topo.now l.b) (g.P.Post.journal l.initial.post) (g.P.Post.journal l.post);
  faults : g.P.Post.faults l.post ≡ g.P.Post.faults l.initial.post;
}
