use Rattle.std.proofs.Common.{◌≡◌, length}
use Rattle.gr_filter.specs.Reach.{reach}
use Rattle.gr_filter.proofs.like.front_of.Given as goal

-- what is left reaches as far as the whole
abbrev pub invariant-places : goal.invariant-places
invariant-places l = reach l.pattern l.text ≡ reach l.fn.pattern l.fn.text

abbrev pub decreases-places : goal.decreases-places
decreases-places l = length l.pattern
