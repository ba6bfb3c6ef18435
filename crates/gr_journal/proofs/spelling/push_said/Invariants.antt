use Rattle.std.proofs.Common.{◌≡◌, true, ◌++◌, drop}
use Rattle.gr_journal.specs.Groups.{said_text}
use Rattle.gr_journal.proofs.spelling.push_said.Given as goal

-- with what is left
abbrev pub invariant-bytes : goal.invariant-bytes
invariant-bytes l = l.text ++ said_text l.begins (drop l.byte-index l.lines) ≡ l.fn.text ++ said_text true l.lines
