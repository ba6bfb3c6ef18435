-- what was told, and the lines that are left
use Rattle.std.proofs.Common.{◌≡◌, ◌++◌, ◌-◌, length, flat_map, Some}
use Rattle.gr_model.specs.Net.{numbers_from}
use Rattle.gr_node.specs.Done.{doubt_shown, doubts_by}
use Rattle.gr_node.proofs.showing.tell_horizons.Given as goal

abbrev pub invariant-publishers : goal.invariant-publishers
invariant-publishers l =
    l.into ++ flat_map (doubt_shown l.topo l.b l.broker) (numbers_from l.p (length l.topo.publishers - l.p))
    ≡ l.fn.into ++ doubts_by l.topo l.b (Some l.broker)
