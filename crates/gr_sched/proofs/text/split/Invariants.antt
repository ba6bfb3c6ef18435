use Rattle.std.proofs.Common.{length, ◌-◌, ◌≡◌, ◌≤◌, ◌++◌, take, drop}
use Rattle.gr_sched.specs.Text.{pieces_of, before_separator, after_separator}
use Rattle.gr_sched.proofs.text.split.Given as goal

abbrev pub invariant-pieces : goal.invariant-pieces
invariant-pieces l = record {
  within : l.start ≤ length l.bytes;
  topology : before_separator (pieces_of l.bytes) ≡ take l.start l.bytes ++ before_separator (pieces_of (drop l.start l.bytes));
  steps : after_separator (pieces_of l.bytes) ≡ after_separator (pieces_of (drop l.start l.bytes));
}

abbrev pub decreases-pieces : goal.decreases-pieces
decreases-pieces l = length l.bytes - l.start
