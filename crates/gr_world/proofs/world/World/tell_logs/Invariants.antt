use Rattle.std.proofs.Common.{◌≡◌, ◌++◌, ◌-◌, length, map}
use Rattle.gr_model.specs.Net.{numbers, numbers_from}
use Rattle.gr_world.specs.Seen.{world_of}
use Rattle.gr_world.specs.Shown.{log_shown}
use Rattle.gr_world.proofs.world.World.tell_logs.Given as goal

-- what was told, and the lines that are left
abbrev pub invariant-publishers : goal.invariant-publishers
invariant-publishers l =
    l.into ++ map (log_shown (world_of l.self)) (numbers_from l.p (length l.self.topo.publishers - l.p))
    ≡ l.fn.into ++ map (log_shown (world_of l.self)) (numbers (length l.self.topo.publishers))
