use Rattle.std.proofs.Common.{length}
use Rattle.gr_event.proofs.event.+size_of_pairs.Given as goal

abbrev pub decreases-size_of_pairs : goal.decreases-size_of_pairs
decreases-size_of_pairs l = length l.pairs.now
