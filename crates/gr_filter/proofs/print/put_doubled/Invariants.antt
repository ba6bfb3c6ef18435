use Rattle.std.proofs.Common.{◌≡◌, ◌++◌, drop}
use Rattle.gr_filter.specs.Print.{doubled}
use Rattle.gr_filter.proofs.print.put_doubled.Given as goal

-- what was put, and what is left
abbrev pub invariant-loop-byte : goal.invariant-loop-byte
invariant-loop-byte l = l.out ++ doubled (drop l.byte-index l.text) ≡ l.initial.out ++ doubled l.text
