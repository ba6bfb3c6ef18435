use Rattle.std.proofs.Common.{length}
use Rattle.gr_event.proofs.compact.put_integer.Given as goal

abbrev pub decreases-digits : goal.decreases-digits
decreases-digits l = length l.rest
