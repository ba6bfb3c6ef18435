use Rattle.std.proofs.Common.{vec_len}
use Rattle.gr_tree.proofs.Growing.{Grown}
use Rattle.gr_tree.proofs.search.places.Given as goal

abbrev pub invariant-grow : goal.invariant-grow
invariant-grow l = Grown l.nodes l.links l.root l.row.items l.left.items

abbrev pub decreases-grow : goal.decreases-grow
decreases-grow l = vec_len l.left
