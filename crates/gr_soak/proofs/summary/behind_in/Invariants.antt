use Rattle.std.proofs.Common.{◌≡◌, ◌≤◌, take}
use Rattle.std.specs.List.{count_by}
use Rattle.gr_soak.specs.Summary.{is_behind}
use Rattle.gr_soak.proofs.summary.behind_in.Given as goal

-- the count so far
abbrev pub invariant-lines : goal.invariant-lines
invariant-lines l = record {
  count : l.behind ≡ count_by (is_behind l.shown) (take l.line-index l.shown);
  small : l.behind ≤ l.line-index;
}
