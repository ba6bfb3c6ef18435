use Rattle.std.proofs.Common.{◌≡◌, ◌≤◌, ◌+◌, drop}
use Rattle.gr_audit.specs.Compared.{ends_in}
use Rattle.gr_audit.proofs.comparison.ends_in.Given as goal

abbrev pub invariant-bytes : goal.invariant-bytes
invariant-bytes l = record {
  count : l.ends + ends_in (drop l.byte-index l.text) ≡ ends_in l.text;
  most : l.ends ≤ l.byte-index;
}
