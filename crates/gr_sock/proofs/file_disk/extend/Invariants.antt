use Rattle.std.proofs.Common.{◌≡◌, ℕ, ◌-◌, ◌+◌, false, get_or, vec_len}
use Rattle.gr_sock.proofs.file_disk.extend.Given as goal

abbrev pub invariant-places : goal.invariant-places
invariant-places l = (n : ℕ) → get_or l.ready.items n false ≡ get_or l.fn.ready.items n false

abbrev pub decreases-places : goal.decreases-places
decreases-places l = (l.lane + 1) - vec_len l.ready
