use Rattle.gr_topo.proofs.Sound.{links_within}
use Rattle.gr_topo.proofs.read.resolved_in.Goals as goal

pub tree_of-requires : goal.tree_of-requires
tree_of-requires c = rw c.deref-9.ensures.value (links_within c.args.brokers.now _ c.in_ok-links.links.items c.in_ok-links.ensures)
