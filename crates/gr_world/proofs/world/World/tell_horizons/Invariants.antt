use Rattle.std.proofs.Common.{◌≡◌, ◌++◌, ◌-◌, length, flat_map}
use Rattle.gr_model.specs.Net.{numbers_from}
use Rattle.gr_world.specs.Seen.{net_in, world_of}
use Rattle.gr_world.specs.Shown.{horizon_shown, horizons_shown}
use Rattle.gr_world.proofs.world.World.tell_horizons.Given as goal

-- what was told, and the lines that are left
abbrev pub invariant-publishers : goal.invariant-publishers
invariant-publishers l =
    l.into ++ flat_map (horizon_shown (net_in l.self) (world_of l.self) l.b) (numbers_from l.p (length l.self.topo.publishers - l.p))
    ≡ l.fn.into ++ horizons_shown (net_in l.self) (world_of l.self) l.b
