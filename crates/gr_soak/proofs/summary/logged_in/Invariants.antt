use Rattle.std.proofs.Common.{◌≡◌, ◌≤◌, take}
use Rattle.std.specs.List.{count_by}
use Rattle.gr_soak.specs.Summary.{is_logged}
use Rattle.gr_soak.proofs.summary.logged_in.Given as goal

-- the count so far
abbrev pub invariant-lines : goal.invariant-lines
invariant-lines l = record {
  count : l.logged ≡ count_by is_logged (take l.line-index l.lines);
  small : l.logged ≤ l.line-index;
}
