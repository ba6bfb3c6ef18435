use Rattle.std.proofs.Common.{◌≡◌, drop}
use Rattle.gr_sock.specs.Bound.{socket_in}
use Rattle.gr_sock.proofs.udp_post.socket_in.Given as goal

abbrev pub invariant-loop-b : goal.invariant-loop-b
invariant-loop-b l = socket_in l.broker (drop l.b-index l.bound) ≡ socket_in l.broker l.bound
