use Rattle.std.proofs.Common.{◌≡◌, replicate, None}
use Rattle.gr_tree.proofs.search.no_places.Given as goal

abbrev pub invariant-loop-node : goal.invariant-loop-node
invariant-loop-node l = l.row.items ≡ replicate l._node None
