-- the clients so far are bound, and no fault was counted
use Rattle.std.proofs.Common.{◌≡◌, length, flat_map}
use Rattle.gr_model.specs.Net.{numbers}
use Rattle.gr_node.specs.Plan.{client_nodes}
use Rattle.gr_node.proofs.BoundNodes.{BoundSoFar, clients_from}
use Rattle.gr_node.proofs.bindings.bind_clients.Given as goal

abbrev pub invariant-publishers : goal.invariant-publishers
invariant-publishers g l = record {
  bound : BoundSoFar l.site.topo.now l.site.hosted.now g.P.Post.tells (flat_map (client_nodes l.site.topo.now l.site.hosted.now) (numbers (length l.site.topo.now.publishers))) (clients_from l.site.topo.now l.site.hosted.now l.p) (g.P.Post.journal l.initial.post) (g.P.Post.journal l.post);
  faults : g.P.Post.faults l.post ≡ g.P.Post.faults l.initial.post;
}
