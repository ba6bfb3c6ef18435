use Rattle.std.proofs.Common.{length}
use Rattle.gr_cover.proofs.attribute.+parts.Given as goal

abbrev pub decreases-parts : goal.decreases-parts
decreases-parts l = length l.attributes.now
