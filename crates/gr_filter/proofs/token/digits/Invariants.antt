use Rattle.std.proofs.Common.{◌≡◌, ◌+◌, drop}
use Rattle.gr_filter.specs.Token.{is_digit, front}
use Rattle.gr_filter.proofs.token.digits.Given as goal

-- all so far pass
abbrev pub invariant-loop-i : goal.invariant-loop-i
invariant-loop-i l = l.i + front is_digit (drop l.i l.text) ≡ front is_digit l.text
