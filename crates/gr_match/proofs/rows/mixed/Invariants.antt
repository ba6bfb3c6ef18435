use Rattle.std.proofs.Common.{◌≡◌, ◌<◌, ◌^◌, drop}
use Rattle.gr_match.specs.Index.{mixed}
use Rattle.gr_match.proofs.rows.mixed.Given as goal

-- the bytes left, mixed into the number so far, give that of all
abbrev pub invariant-loop-byte : goal.invariant-loop-byte
invariant-loop-byte l = record {
  within : l.number < 2 ^ 32;
  left : mixed l.number (drop l.byte-index l.bytes) ≡ mixed l.start l.bytes;
}
