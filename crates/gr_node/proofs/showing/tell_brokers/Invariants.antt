-- what was told, and the lines that are left
use Rattle.std.proofs.Common.{◌≡◌, ◌++◌, drop, flat_map}
use Rattle.gr_node.specs.Seen.{seen}
use Rattle.gr_node.specs.Done.{doubts_shown}
use Rattle.gr_node.proofs.showing.tell_brokers.Given as goal

abbrev pub invariant-hosted : goal.invariant-hosted
invariant-hosted l =
    l.into ++ flat_map (doubts_shown l.site.topo.now (seen l.node)) (drop l.b-index l.site.hosted.now)
    ≡ l.fn.into ++ flat_map (doubts_shown l.site.topo.now (seen l.node)) l.site.hosted.now
