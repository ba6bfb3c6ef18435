use Rattle.std.proofs.Common.{◌≡◌, ◌++◌, ◌-◌, ◌≤◌, length, drop}
use Rattle.gr_filter.specs.Token.{undoubled}
use Rattle.gr_filter.proofs.token.put_undoubled.Given as goal

-- what was put, and what is left
abbrev pub invariant-bytes : goal.invariant-bytes
invariant-bytes l = record {
  within : l.at ≤ length l.text;
  left : l.out ++ undoubled (drop l.at l.text) ≡ l.fn.out ++ undoubled l.text;
}

abbrev pub decreases-bytes : goal.decreases-bytes
decreases-bytes l = length l.text - l.at
