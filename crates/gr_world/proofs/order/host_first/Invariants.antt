use Rattle.std.proofs.Common.{◌≡◌, ◌++◌, ◌-◌, length}
use Rattle.std.specs.List.{flat_map}
use Rattle.gr_model.specs.Net.{numbers_from}
use Rattle.gr_model.specs.NetOf.{net_of}
use Rattle.gr_model.specs.World.{at_depth, outwards}
use Rattle.gr_world.proofs.order.host_first.Given as goal

abbrev pub invariant-depths : goal.invariant-depths
invariant-depths l = l.found ++ flat_map (at_depth (net_of l.topology) l.p) (numbers_from l.depth (length l.topology.brokers - l.depth)) ≡ outwards (net_of l.topology) l.p
