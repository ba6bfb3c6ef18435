use Rattle.std.proofs.Common.{Some, sym, ap, ◌∙◌}
use Rattle.gr_node.proofs.BoundNodes.{broker_address}
use Rattle.gr_node.proofs.bindings.bind_broker.Goals as goal

pub bind_node-requires : goal.bind_node-requires
bind_node-requires g c =
    broker_address c.args.site.now.topo.now c.args.b c.as_slice.result.now c.requires.few (sym c.in-Some.ensures ∙ ap (λ xs. Some xs) (sym c.as_slice.ensures))
