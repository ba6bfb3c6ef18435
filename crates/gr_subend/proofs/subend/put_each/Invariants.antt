use Rattle.std.proofs.Common.{◌≡◌, suc, ◌-◌, ◌++◌, map}
use Rattle.gr_subend.specs.Horizon.{numbers_from}
use Rattle.gr_subend.specs.Deliveries.{items}
use Rattle.gr_subend.proofs.subend.put_each.Given as goal

-- what was put and the ticks that are left are what is to be put
abbrev pub invariant-loop-tick : goal.invariant-loop-tick
invariant-loop-tick l =
    items l.deliveries ++ map (λ t. (t, l.event)) (numbers_from l.tick (suc l.fn.last - l.tick)) ≡ items l.initial.deliveries ++ map (λ t. (t, l.event)) (numbers_from l.fn.first (suc l.fn.last - l.fn.first))
