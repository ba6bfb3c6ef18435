use Rattle.std.proofs.Common.{◌≡◌, ◌++◌, ◌-◌, length, flat_map}
use Rattle.gr_model.specs.Net.{numbers, numbers_from}
use Rattle.gr_world.specs.Seen.{net_in, world_of}
use Rattle.gr_world.specs.Shown.{horizons_shown}
use Rattle.gr_world.proofs.world.World.tell_all_horizons.Given as goal

-- what was told, and the lines that are left
abbrev pub invariant-brokers : goal.invariant-brokers
invariant-brokers l =
    l.into ++ flat_map (horizons_shown (net_in l.self) (world_of l.self)) (numbers_from l.b (length l.self.topo.brokers - l.b))
    ≡ l.fn.into ++ flat_map (horizons_shown (net_in l.self) (world_of l.self)) (numbers (length l.self.topo.brokers))
