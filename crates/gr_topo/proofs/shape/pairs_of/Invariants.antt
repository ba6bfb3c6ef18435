use Rattle.std.proofs.Common.{◌≡◌, drop}
use Rattle.gr_topo.specs.Gives.{walk, each, one_more}
use Rattle.gr_topo.specs.Shape.{pair_in}
use Rattle.gr_topo.specs.Seen.{seen_items}
use Rattle.gr_topo.proofs.shape.pairs_of.Given as goal

abbrev pub invariant-loop-value : goal.invariant-loop-value
invariant-loop-value l = walk (one_more (pair_in l.key)) l.pairs.items (seen_items (drop l.value-index l.values)) ≡ each (pair_in l.key) (seen_items l.values)
