use Rattle.std.proofs.Common.{◌≡◌, ◌+◌, ◌-◌, ◌≤◌, length, drop, option_map}
use Rattle.gr_filter.specs.Token.{text_len}
use Rattle.gr_filter.proofs.token.text_len.Given as goal

-- no end so far: the text is as long as what is left, and what was passed
abbrev pub invariant-bytes : goal.invariant-bytes
invariant-bytes l = record {
  within : l.at ≤ length l.text;
  left : option_map (λ n. n + l.at) (text_len (drop l.at l.text)) ≡ text_len l.text;
}

abbrev pub decreases-bytes : goal.decreases-bytes
decreases-bytes l = length l.text - l.at
