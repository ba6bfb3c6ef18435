use Rattle.std.proofs.Common.{◌++◌, Err, refl, ap, ◌∙◌, subst, arith}
use Rattle.std.proofs.lemmas.Result.{err_from_is_err_and}
use Rattle.gr_topo.specs.Topology.{host_of}
use Rattle.gr_client.specs.Client.{ClientView}
use Rattle.gr_client.specs.Run.{offer_entries}
use Rattle.gr_client.specs.Turns.{Finished}
use Rattle.gr_client.proofs.Bound.{bound_two}
use Rattle.gr_client.proofs.Ways.{memory_put, put_client, post_client, memory_stays, post_stays, put_moves, moves_later}
use Rattle.gr_client.proofs.WholeRun.{ran_unbound, ran_unoffered, ran_finished}
use Rattle.gr_client.proofs.running.run_client.Goals as goal

pub offer-requires : goal.offer-requires
offer-requires g c = omega (arith, c.requires.own, c.requires.node)

pub finish-requires : goal.finish-requires
finish-requires g c = record { at = record { publisher = c.requires.publisher; node = omega (arith, c.requires.own, c.requires.node) } }

pub returns-in_err-bind_nodes-clause-ran : goal.returns-in_err-bind_nodes-clause-ran
returns-in_err-bind_nodes-clause-ran g c = λ steps begins.
    let fault = err_from_is_err_and c.from_residual.result c.from_residual.ensures.1 in
    let bound = c.in_err-bind_nodes.ensures.bound in
    rw (fault.1, fault.2) (ran_unbound c.args.topo.now c.args.p g.P.Post.tells steps c.args.turns (g.K.Sink.taken c.args.sink.now) (g.P.Post.journal c.args.post.now) (g.P.Post.journal c.bind_nodes.new.post) bound.0 c.in_err-bind_nodes.field-0.0 bound.1.1.1.0 bound.1.1.1.1)

pub returns-in_err-bind_nodes-clause-cause : goal.returns-in_err-bind_nodes-clause-cause
returns-in_err-bind_nodes-clause-cause g c =
    let fault = err_from_is_err_and c.from_residual.result c.from_residual.ensures.1 in
    rw (fault.1, fault.2) (post_client c.in_err-bind_nodes.field-0.0 c.in_err-bind_nodes.ensures.cause)

pub returns-in_err-bind_nodes-clause-sink : goal.returns-in_err-bind_nodes-clause-sink
returns-in_err-bind_nodes-clause-sink g c =
    let fault = err_from_is_err_and c.from_residual.result c.from_residual.ensures.1 in
    rw (fault.1, fault.2) (post_stays {T = Unit {0}} (g.K.Sink.faults c.args.sink.now) (g.K.Sink.faults c.args.sink.now) c.in_err-bind_nodes.field-0.0 refl c.in_err-bind_nodes.ensures.cause)

pub returns-in_err-offer-clause-ran : goal.returns-in_err-offer-clause-ran
returns-in_err-offer-clause-ran g c = λ steps begins.
    let t = c.args.topo.now in
    let p = c.args.p in
    let fault = err_from_is_err_and c.from_residual-in_err-offer.result c.from_residual-in_err-offer.ensures.1 in
    let bound = c.in_ok-bind_nodes.ensures.bound in
    rw (fault.1, fault.2)
    (ran_unoffered t p g.P.Post.tells steps c.args.turns (g.K.Sink.taken c.args.sink.now) (g.P.Post.journal c.args.post.now) (g.P.Post.journal c.bind_nodes.new.post) (g.P.Post.journal c.offer.new.post) c.in_err-offer.field-0.0 c.in_err-offer.ensures.keeps.cause
    (λ tells. bound_two t p (g.P.Post.journal c.args.post.now) (g.P.Post.journal c.bind_nodes.new.post) bound.0 bound.1.1.0 (bound.1.1.1.1 tells)) c.in_err-offer.ensures.keeps.unsent)

pub returns-in_err-offer-clause-cause : goal.returns-in_err-offer-clause-cause
returns-in_err-offer-clause-cause g c =
    let fault = err_from_is_err_and c.from_residual-in_err-offer.result c.from_residual-in_err-offer.ensures.1 in
    rw (fault.1, fault.2) (put_client {T = Unit {0}} (Err c.in_err-offer.field-0.0) (memory_put {T = Unit {0}} (Err c.in_err-offer.field-0.0) c.in_err-offer.ensures.keeps.cause))

pub returns-in_err-offer-clause-sink : goal.returns-in_err-offer-clause-sink
returns-in_err-offer-clause-sink g c =
    let fault = err_from_is_err_and c.from_residual-in_err-offer.result c.from_residual-in_err-offer.ensures.1 in
    rw (fault.1, fault.2) (memory_stays {T = Unit {0}} (g.K.Sink.faults c.args.sink.now) (g.K.Sink.faults c.args.sink.now) (Err c.in_err-offer.field-0.0) refl c.in_err-offer.ensures.keeps.cause)

pub returns-in_err-offer-clause-post : goal.returns-in_err-offer-clause-post
returns-in_err-offer-clause-post g c =
    let fault = err_from_is_err_and c.from_residual-in_err-offer.result c.from_residual-in_err-offer.ensures.1 in
    rw (fault.1, fault.2)
    (put_moves {T = Unit {0}} (g.P.Post.faults c.args.post.now) (g.P.Post.faults c.offer.new.post) (Err c.in_err-offer.field-0.0) (c.offer.ensures.keeps.same ∙ c.in_ok-bind_nodes.ensures.moves.same (λ e. cc)) (memory_put {T = Unit {0}} (Err c.in_err-offer.field-0.0) c.in_err-offer.ensures.keeps.cause))

pub returns-clause-ran : goal.returns-clause-ran
returns-clause-ran g c = λ steps begins.
    let t = c.args.topo.now in
    let p = c.args.p in
    let bound = c.in_ok-bind_nodes.ensures.bound in
    ran_finished t p g.P.Post.tells steps c.args.turns (g.K.Sink.taken c.args.sink.now) (g.K.Sink.taken c.finish.new.sink) (g.P.Post.journal c.args.post.now) (g.P.Post.journal c.bind_nodes.new.post) (g.P.Post.journal c.offer.new.post) (g.P.Post.journal c.finish.new.post) c.finish.result
    (λ tells. bound_two t p (g.P.Post.journal c.args.post.now) (g.P.Post.journal c.bind_nodes.new.post) bound.0 bound.1.1.0 (bound.1.1.1.1 tells))
    (λ tells. c.in_ok-offer.ensures.sent tells ∙ ap (λ host. g.P.Post.journal c.bind_nodes.new.post ++ offer_entries host c.args.client.now) c.host.ensures.host
    ∙ ap (λ (x : ClientView). g.P.Post.journal c.bind_nodes.new.post ++ offer_entries (host_of t p) x) begins)
    (subst (λ (x : ClientView). Finished t p g.P.Post.tells c.args.turns x (g.K.Sink.taken c.args.sink.now) (g.K.Sink.taken c.finish.new.sink) (g.P.Post.journal c.offer.new.post) (g.P.Post.journal c.finish.new.post) c.finish.result) begins c.finish.ensures.finished)

pub returns-clause-post : goal.returns-clause-post
returns-clause-post g c =
    moves_later (g.P.Post.faults c.args.post.now) (g.P.Post.faults c.offer.new.post) (g.P.Post.faults c.finish.new.post) c.finish.result (c.offer.ensures.keeps.same ∙ c.in_ok-bind_nodes.ensures.moves.same (λ e. cc)) c.finish.ensures.moves
