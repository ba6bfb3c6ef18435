use Rattle.std.proofs.Common.{◌≡◌, ◌≤◌, ◌++◌, ◌-◌, length, drop}
use Rattle.gr_audit.specs.Compared.{told_of, text_of}
use Rattle.gr_audit_run.proofs.telling.tell.Given as goal

-- with what is left
abbrev pub invariant-bytes : goal.invariant-bytes
invariant-bytes l = record {
  within : l.at ≤ length l.bytes;
  told : told_of l.told ++ drop l.at l.bytes ≡ told_of l.fn.told ++ l.bytes;
  text : text_of l.told ≡ text_of l.fn.told;
}

abbrev pub decreases-bytes : goal.decreases-bytes
decreases-bytes l = length l.bytes - l.at
