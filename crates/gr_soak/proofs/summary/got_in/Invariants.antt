use Rattle.std.proofs.Common.{◌≡◌, ◌≤◌, take}
use Rattle.std.specs.List.{count_by}
use Rattle.gr_soak.specs.Summary.{is_got}
use Rattle.gr_soak.proofs.summary.got_in.Given as goal

-- the count so far
abbrev pub invariant-lines : goal.invariant-lines
invariant-lines l = record {
  count : l.got ≡ count_by is_got (take l.line-index l.lines);
  small : l.got ≤ l.line-index;
}
