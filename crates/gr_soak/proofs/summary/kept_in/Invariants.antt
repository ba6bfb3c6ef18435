use Rattle.std.proofs.Common.{◌≡◌, ◌*◌, ◌^◌, ◌≤◌, take}
use Rattle.std.specs.List.{sum_by}
use Rattle.gr_soak.specs.Summary.{kept_told}
use Rattle.gr_soak.proofs.summary.kept_in.Given as goal

-- the sum so far, and that it is as small as so many numbers allow
abbrev pub invariant-lines : goal.invariant-lines
invariant-lines l = record {
  sum : l.kept ≡ sum_by kept_told (take l.line-index l.shown);
  small : l.kept ≤ l.line-index * 2 ^ 64;
}
