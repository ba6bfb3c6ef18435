use Rattle.std.proofs.Common.{◌≡◌, ◌<◌, ◌^◌, take}
use Rattle.gr_sock.specs.Address.{value_after}
use Rattle.gr_sock.proofs.address.value.Given as goal

abbrev pub invariant-loop-digit : goal.invariant-loop-digit
invariant-loop-digit l = record {
  value : l.value ≡ value_after 0 (take l.digit-index l.digits);
  small : l.value < 10 ^ l.digit-index;
}
