use Rattle.std.proofs.Common.{refl, ◌∙◌, arith}
use Rattle.gr_node.proofs.BoundNodes.{none_bound_yet, bound_more, bound_failed, bound_through, brokers_all, brokers_more, brokers_none, moves_from}
use Rattle.gr_node.proofs.bindings.bind_brokers.Goals as goal

pub brokers-init : goal.brokers-init
brokers-init g c = record {
  bound = none_bound_yet c.args.site.now.topo.now c.args.site.now.hosted.now g.P.Post.tells _ _ _ (brokers_all c.args.site.now.topo.now);
  faults = refl;
}

pub bind_broker-requires-clause-few : goal.bind_broker-requires-clause-few
bind_broker-requires-clause-few g c =
    let limits = c.brokers-b-end.ensures.topology.sound.limits in
    omega (arith, c.brokers-test.true, c.brokers-b-end.ensures.count, limits.brokers)

pub returns-in-Err-clause-bound : goal.returns-in-Err-clause-bound
returns-in-Err-clause-bound g c =
    let t = c.args.site.now.topo.now in
    bound_failed t c.args.site.now.hosted.now g.P.Post.tells _ _ _ _ _ _ _ c.in-Err.fault (brokers_more t c.brokers.b (omega (arith, c.brokers-test.true, c.brokers-b-end.ensures.count)))
    c.brokers.invariant.bound c.in-Err.ensures.bound

pub returns-in-Err-clause-moves : goal.returns-in-Err-clause-moves
returns-in-Err-clause-moves g c = moves_from _ _ _ c.in-Err.fault c.brokers.invariant.faults c.in-Err.ensures.moves

pub brokers-preserved : goal.brokers-preserved
brokers-preserved g c =
    let t = c.args.site.now.topo.now in
    record {
      bound = bound_more t c.args.site.now.hosted.now g.P.Post.tells _ _ _ _ _ _ _ _ (brokers_more t c.brokers.b (omega (arith, c.brokers-test.true, c.brokers-b-end.ensures.count)))
          c.brokers.invariant.bound c.in-Ok.ensures.bound;
      faults = c.in-Ok.ensures.moves.same (λ e. cc) ∙ c.brokers.invariant.faults;
    }

pub returns-clause-bound : goal.returns-clause-bound
returns-clause-bound g c =
    let t = c.args.site.now.topo.now in
    bound_through t c.args.site.now.hosted.now g.P.Post.tells _ _ _ _ _ (brokers_none t c.brokers.b (omega arith)) c.brokers.invariant.bound
