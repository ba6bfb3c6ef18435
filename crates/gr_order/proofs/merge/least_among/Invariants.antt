use Rattle.std.proofs.Common.{◌≡◌, min, drop, fold}
use Rattle.gr_order.specs.Merge.{least_of}
use Rattle.gr_order.proofs.merge.least_among.Given as goal

-- the least so far, and then of what is left
abbrev pub invariant-loop-horizon : goal.invariant-loop-horizon
invariant-loop-horizon l = fold min l.least (drop l.horizon-index l.horizon-items) ≡ least_of l.fn.horizons
