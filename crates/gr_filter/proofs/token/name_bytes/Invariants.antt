use Rattle.std.proofs.Common.{◌≡◌, ◌+◌, drop}
use Rattle.gr_filter.specs.Token.{goes_on, front}
use Rattle.gr_filter.proofs.token.name_bytes.Given as goal

-- all so far pass
abbrev pub invariant-loop-i : goal.invariant-loop-i
invariant-loop-i l = l.i + front goes_on (drop l.i l.text) ≡ front goes_on l.text
