use Rattle.std.proofs.Common.{ℕ, ap, ◌∙◌}
use Rattle.gr_model.specs.Arrivals.{Publish}
use Rattle.gr_node.specs.Seen.{seen, log_here}
use Rattle.gr_node.specs.Plan.{reply_to}
use Rattle.gr_node.proofs.Notes.{reply_is, sent_as}
use Rattle.gr_node.proofs.noting.answer.Goals as goal

pub returns-in-Ok-clause-sent : goal.returns-in-Ok-clause-sent
returns-in-Ok-clause-sent g c = λ e tells.
    let t = c.args.site.now.topo.now in
    let x : Publish = (c.args.p, (c.args.number, e)) in
    let last : ℕ = (log_here t (seen c.args.node.now) c.args.p).last in
    sent_as (g.P.Post.journal c.args.post.now) (g.P.Post.journal c.offer.new.post) c.offer.result
    (reply_is t last x c.host.result c.node_of_client.result c.as_slice.result.now c.reply_to-reply.result c.host.ensures.host c.node_of_client.ensures
    (c.as_slice.ensures ∙ c.in-Ok.ensures.bytes) (c.reply_to-reply.ensures.reply e ∙ ap (λ k. reply_to k x) c.last_at.ensures.last))
    (c.offer.ensures.sent tells)
