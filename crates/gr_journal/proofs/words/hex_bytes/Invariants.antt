use Rattle.std.proofs.Common.{◌≡◌, ◌≤◌, ◌-◌, ◌++◌, length, drop}
use Rattle.gr_journal.specs.Words.{hex_bytes}
use Rattle.gr_journal.proofs.words.hex_bytes.Given as goal

abbrev pub invariant-pairs : goal.invariant-pairs
invariant-pairs l = record {
  within : l.at ≤ length l.fn.word;
  bytes : l.bytes ++ hex_bytes (drop l.at l.fn.word) ≡ hex_bytes l.fn.word;
}

abbrev pub decreases-pairs : goal.decreases-pairs
decreases-pairs l = length l.fn.word - l.at
