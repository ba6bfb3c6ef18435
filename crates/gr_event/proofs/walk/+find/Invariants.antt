use Rattle.std.proofs.Common.{length}
use Rattle.gr_event.proofs.walk.+find.Given as goal

abbrev pub decreases-find : goal.decreases-find
decreases-find l = length l.rest.now
