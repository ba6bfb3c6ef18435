use Rattle.std.proofs.Common.{Some, ap, ◌∙◌}
use Rattle.std.proofs.lemmas.Result.{err_from_is_err_and}
use Rattle.gr_client.proofs.Bound.{bound_none, bound_so}
use Rattle.gr_client.proofs.Ways.{moves_later}
use Rattle.gr_client.proofs.binding.bind_nodes.Goals as goal

pub returns-in_err-bind-clause-bound : goal.returns-in_err-bind-clause-bound
returns-in_err-bind-clause-bound g c =
    let fault = err_from_is_err_and c.from_residual.result c.from_residual.ensures.1 in
    rw (fault.1, fault.2) (bound_none c.args.topo.now c.args.p g.P.Post.tells (g.P.Post.journal c.args.post.now) (g.P.Post.journal c.bind.new.post) c.in_err-bind.field-0.0 c.in_err-bind.ensures.journal)

pub returns-clause-bound : goal.returns-clause-bound
returns-clause-bound g c =
    bound_so c.args.topo.now c.args.p g.P.Post.tells c.client_node.result c.host-host.result c.as_slice.result.now c.as_slice-2.result.now (g.P.Post.journal c.args.post.now) (g.P.Post.journal c.bind.new.post) (g.P.Post.journal c.bind-2.new.post) c.bind-2.result
    c.client_node.ensures (ap (λ xs. Some xs) c.as_slice.ensures ∙ c.in-Some.ensures) c.host-host.ensures.host (ap (λ xs. Some xs) c.as_slice-2.ensures ∙ c.in-Some-address.ensures) c.in_ok-bind.ensures.journal c.bind-2.ensures.journal

pub returns-clause-moves : goal.returns-clause-moves
returns-clause-moves g c =
    moves_later (g.P.Post.faults c.args.post.now) (g.P.Post.faults c.bind.new.post) (g.P.Post.faults c.bind-2.new.post) c.bind-2.result (c.in_ok-bind.ensures.post.same (λ e. cc)) c.bind-2.ensures.post
