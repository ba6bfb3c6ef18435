use Rattle.std.proofs.Common.{◌≡◌, take}
use Rattle.gr_cover.proofs.search.with_pair.Given as goal

abbrev pub invariant-loop-pair : goal.invariant-loop-pair
invariant-loop-pair l = l.longer.items ≡ take l.pair-index l.pairs
