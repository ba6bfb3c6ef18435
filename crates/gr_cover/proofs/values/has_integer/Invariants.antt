use Rattle.std.proofs.Common.{◌≡◌, drop}
use Rattle.std.specs.List.{list_any}
use Rattle.gr_cover.specs.Candidates.{is_integer}
use Rattle.gr_cover.proofs.values.has_integer.Given as goal

-- what is left decides
abbrev pub invariant-loop-value : goal.invariant-loop-value
invariant-loop-value l = list_any is_integer (drop l.value-index l.values) ≡ list_any is_integer l.values
