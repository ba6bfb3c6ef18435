use Rattle.std.proofs.Common.{◌≡◌, ◌++◌, take}
use Rattle.std.specs.List.{flat_map}
use Rattle.gr_journal.specs.Words.{hex_pair}
use Rattle.gr_journal.proofs.spelling.push_hex.Given as goal

abbrev pub invariant-loop-byte : goal.invariant-loop-byte
invariant-loop-byte l = l.text ≡ l.fn.text ++ flat_map hex_pair (take l.byte-index l.bytes)
