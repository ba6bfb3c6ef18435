use Rattle.std.proofs.Common.{◌≡◌, drop}
use Rattle.std.specs.List.{list_any}
use Rattle.gr_soak.specs.Summary.{is_settled}
use Rattle.gr_soak.proofs.summary.is_told.Given as goal

-- what is left decides
abbrev pub invariant-logs : goal.invariant-logs
invariant-logs l = list_any (is_settled l.publisher l.tick) (drop l.log-index l.shown) ≡ list_any (is_settled l.publisher l.tick) l.shown
