use Rattle.std.proofs.Common.{◌-◌, ◌+◌, vec_len}
use Rattle.gr_sock.proofs.log_folder.extend.Given as goal

abbrev pub decreases-places : goal.decreases-places
decreases-places l = (l.lane + 1) - vec_len l.opened
