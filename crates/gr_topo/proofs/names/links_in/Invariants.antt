use Rattle.std.proofs.Common.{◌≡◌, drop}
use Rattle.gr_topo.specs.Gives.{walk, one_more}
use Rattle.gr_topo.specs.Checks.{link_in, links_in}
use Rattle.gr_topo.proofs.names.links_in.Given as goal

abbrev pub invariant-loop-pair : goal.invariant-loop-pair
invariant-loop-pair l = walk (one_more (link_in l.brokers)) l.links.items (drop l.pair-index l.pairs) ≡ links_in l.brokers l.pairs
