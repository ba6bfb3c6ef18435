use Rattle.std.proofs.Common.{◌≡◌, drop}
use Rattle.gr_sock.specs.Digest.{with_bytes}
use Rattle.gr_sock.proofs.digest.with_bytes.Given as goal

abbrev pub invariant-loop-byte : goal.invariant-loop-byte
invariant-loop-byte l = with_bytes l.all (drop l.byte-index l.bytes) ≡ with_bytes l.digest l.bytes
