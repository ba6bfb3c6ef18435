use Rattle.std.proofs.Common.{◌≡◌, drop}
use Rattle.gr_topo.specs.Gives.{walk, each, one_more}
use Rattle.gr_topo.specs.Shape.{text_in}
use Rattle.gr_topo.specs.Seen.{seen_items}
use Rattle.gr_topo.proofs.shape.texts_of.Given as goal

abbrev pub invariant-loop-value : goal.invariant-loop-value
invariant-loop-value l = walk (one_more (text_in l.key)) l.texts.items (seen_items (drop l.value-index l.values)) ≡ each (text_in l.key) (seen_items l.values)
