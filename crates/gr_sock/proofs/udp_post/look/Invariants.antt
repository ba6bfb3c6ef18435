use Rattle.std.proofs.Common.{◌≡◌, length}
use Rattle.gr_sock.proofs.udp_post.look.Given as goal

abbrev pub invariant-sockets : goal.invariant-sockets
invariant-sockets g l = record {
  len : length l.into ≡ length l.fn.into;
  same : g.N.Network.tells → g.N.Network.traffic l.network ≡ g.N.Network.traffic l.fn.network;
}
