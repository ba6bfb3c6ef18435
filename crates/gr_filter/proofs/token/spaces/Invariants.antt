use Rattle.std.proofs.Common.{◌≡◌, ◌+◌, drop}
use Rattle.gr_filter.specs.Token.{is_space, front}
use Rattle.gr_filter.proofs.token.spaces.Given as goal

-- all so far pass
abbrev pub invariant-loop-i : goal.invariant-loop-i
invariant-loop-i l = l.i + front is_space (drop l.i l.text) ≡ front is_space l.text
