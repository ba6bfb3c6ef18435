use Rattle.std.proofs.Common.{refl, ◌∙◌, arith}
use Rattle.gr_node.proofs.BoundNodes.{none_bound_yet, bound_more, bound_failed, bound_through, clients_all, clients_more, clients_none, moves_from}
use Rattle.gr_node.proofs.bindings.bind_clients.Goals as goal

pub publishers-init : goal.publishers-init
publishers-init g c = record {
  bound = none_bound_yet c.args.site.now.topo.now c.args.site.now.hosted.now g.P.Post.tells _ _ _ (clients_all c.args.site.now.topo.now c.args.site.now.hosted.now);
  faults = refl;
}

pub returns-in-Err-clause-bound : goal.returns-in-Err-clause-bound
returns-in-Err-clause-bound g c =
    let t = c.args.site.now.topo.now in
    bound_failed t c.args.site.now.hosted.now g.P.Post.tells _ _ _ _ _ _ _ c.in-Err.fault (clients_more t c.args.site.now.hosted.now c.publishers.p (omega (arith, c.publishers-test.true, c.publishers-p-end.ensures.count)))
    c.publishers.invariant.bound c.in-Err.ensures.bound

pub returns-in-Err-clause-moves : goal.returns-in-Err-clause-moves
returns-in-Err-clause-moves g c = moves_from _ _ _ c.in-Err.fault c.publishers.invariant.faults c.in-Err.ensures.moves

pub publishers-preserved : goal.publishers-preserved
publishers-preserved g c =
    let t = c.args.site.now.topo.now in
    record {
      bound = bound_more t c.args.site.now.hosted.now g.P.Post.tells _ _ _ _ _ _ _ _ (clients_more t c.args.site.now.hosted.now c.publishers.p (omega (arith, c.publishers-test.true, c.publishers-p-end.ensures.count)))
          c.publishers.invariant.bound c.in-Ok.ensures.bound;
      faults = c.in-Ok.ensures.moves.same (λ e. cc) ∙ c.publishers.invariant.faults;
    }

pub returns-clause-bound : goal.returns-clause-bound
returns-clause-bound g c =
    let t = c.args.site.now.topo.now in
    bound_through t c.args.site.now.hosted.now g.P.Post.tells _ _ _ _ _ (clients_none t c.args.site.now.hosted.now c.publishers.p (omega arith)) c.publishers.invariant.bound
