use Rattle.gr_node.proofs.BoundNodes.{bound_on, bound_cut, moves_on}
use Rattle.gr_node.proofs.bindings.bind_all.Goals as goal

pub returns-in-Ok-clause-bound : goal.returns-in-Ok-clause-bound
returns-in-Ok-clause-bound g c =
    bound_on c.args.site.now.topo.now c.args.site.now.hosted.now g.P.Post.tells _ _ _ _ _ _ c.bind_clients.result c.in-Ok.ensures.bound c.bind_clients.ensures.bound

pub returns-in-Ok-clause-moves : goal.returns-in-Ok-clause-moves
returns-in-Ok-clause-moves g c = moves_on _ _ _ _ c.bind_clients.result c.in-Ok.ensures.moves c.bind_clients.ensures.moves

pub returns-in-Err-clause-bound : goal.returns-in-Err-clause-bound
returns-in-Err-clause-bound g c =
    bound_cut c.args.site.now.topo.now c.args.site.now.hosted.now g.P.Post.tells _ _ _ _ c.in-Err.fault c.in-Err.ensures.bound
