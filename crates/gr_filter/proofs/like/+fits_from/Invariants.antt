use Rattle.std.proofs.Common.{◌+◌, ◌*◌, length}
use Rattle.gr_filter.proofs.like.+fits_from.Given as goal

abbrev pub decreases-fits_from : goal.decreases-fits_from
decreases-fits_from l = 2 * (length l.pattern.now + length l.text.now) + 1

abbrev pub decreases-fits_later : goal.decreases-fits_later
decreases-fits_later l = 2 * (length l.pattern.now + length l.text.now)
