use Rattle.std.proofs.Common.{◌<◌, length, sym, subst}
use Rattle.gr_broker_relay.proofs.Sited.{children_many, edge_below}
use Rattle.gr_broker_relay.proofs.answering.edge_to.Goals as goal

pub returns : goal.returns
returns c =
    let s = c.args.site.now in
    let lt : c.args.i < length s.position.now.children.items = subst (λ n. c.args.i < n) (sym (children_many s.topo.now s.broker s.publisher s.edges.now s.position.now c.requires.site.branch)) c.requires.child in
    edge_below s.topo.now s.broker s.publisher c.args.i s.edges.now s.position.now c.index.result.now c.index-site-index.result c.requires.site.branch c.requires.site.edges lt c.index.ensures
