use Rattle.std.proofs.Common.{◌≡◌, ◌++◌}
use Rattle.std.specs.List.{flat_map}
use Rattle.gr_model.specs.NetOf.{net_of}
use Rattle.gr_model.specs.World.{at_depth, numbers_down, inwards}
use Rattle.gr_world.proofs.order.deepest_first.Given as goal

abbrev pub invariant-depths : goal.invariant-depths
invariant-depths l = l.found ++ flat_map (at_depth (net_of l.topology) l.p) (numbers_down l.depth) ≡ inwards (net_of l.topology) l.p
