use Rattle.std.proofs.Common.{sym, ◌∙◌, subst}
use Rattle.gr_model.proofs.Ordering.{ordered_named}
use Rattle.gr_report.specs.Named.{AllNamed}
use Rattle.gr_node.proofs.Keeping.{if_ok}
use Rattle.gr_node.proofs.ordering.put_ordered.Goals as goal

pub put_all-requires : goal.put_all-requires
put_all-requires g c = subst (AllNamed c.args.site.now.topo.now) (sym (c.as_slice.ensures ∙ c.in-Ok.ensures.given)) (ordered_named c.args.site.now.topo.now c.args.orders.now c.requires)

pub returns-in-Ok-clause-left : goal.returns-in-Ok-clause-left
returns-in-Ok-clause-left g c = if_ok c.put_all.result c.in-Ok.ensures.left
