use Rattle.std.proofs.Common.{Some, refl, sym, ap, ◌∙◌, subst}
use Rattle.gr_out.specs.Journal.{is_among}
use Rattle.gr_node.specs.Went.{Bound}
use Rattle.gr_node.proofs.BoundNodes.{none_made, client_address, no_client, client_elsewhere, client_here}
use Rattle.gr_node.proofs.bindings.bind_client.Goals as goal

pub returns-in-None-clause-bound : goal.returns-in-None-clause-bound
returns-in-None-clause-bound g c =
    none_made c.args.site.now.topo.now c.args.site.now.hosted.now g.P.Post.tells _ _ _ _ (no_client c.args.site.now.topo.now c.args.site.now.hosted.now c.args.p c.in-None.ensures) refl

pub returns-then-not-is_among-clause-bound : goal.returns-then-not-is_among-clause-bound
returns-then-not-is_among-clause-bound g c =
    let hosted = c.args.site.now.hosted.now in
    none_made c.args.site.now.topo.now hosted g.P.Post.tells _ _ _ _
    (client_elsewhere c.args.site.now.topo.now hosted c.args.p (sym (c.is_among.ensures ∙ ap (is_among hosted) c.host.ensures.host) ∙ c.if-not-is_among.true)) refl

pub bind_node-requires : goal.bind_node-requires
bind_node-requires g c =
    client_address c.args.site.now.topo.now c.args.p c.node_of_client-node.result c.as_slice.result.now c.node_of_client-node.ensures (sym c.in-Some.ensures ∙ ap (λ xs. Some xs) (sym c.as_slice.ensures))

pub returns-else-not-is_among-clause-bound : goal.returns-else-not-is_among-clause-bound
returns-else-not-is_among-clause-bound g c =
    let t = c.args.site.now.topo.now in
    let hosted = c.args.site.now.hosted.now in
    subst (λ nodes. Bound t hosted g.P.Post.tells nodes (g.P.Post.journal c.args.post.now) (g.P.Post.journal c.bind_node.new.post) c.bind_node.result)
    (client_here t hosted c.args.p c.node_of_client-node.result c.as_slice.result.now (sym c.in-Some.ensures ∙ ap (λ xs. Some xs) (sym c.as_slice.ensures))
    (sym (c.is_among.ensures ∙ ap (is_among hosted) c.host.ensures.host) ∙ c.if-not-is_among.false) c.node_of_client-node.ensures) c.bind_node.ensures.bound
