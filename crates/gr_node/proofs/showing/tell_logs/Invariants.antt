-- what was told, and the lines that are left
use Rattle.std.proofs.Common.{◌≡◌, ◌++◌, ◌-◌, length, flat_map}
use Rattle.gr_model.specs.Net.{numbers_from}
use Rattle.gr_node.specs.Seen.{seen}
use Rattle.gr_node.specs.Done.{log_shown_in, logs_shown}
use Rattle.gr_node.proofs.showing.tell_logs.Given as goal

abbrev pub invariant-publishers : goal.invariant-publishers
invariant-publishers l =
    l.into ++ flat_map (log_shown_in l.site.topo.now l.site.hosted.now (seen l.node)) (numbers_from l.p (length l.site.topo.now.publishers - l.p))
    ≡ l.fn.into ++ logs_shown l.site.topo.now l.site.hosted.now (seen l.node)
