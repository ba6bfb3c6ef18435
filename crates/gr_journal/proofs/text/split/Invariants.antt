use Rattle.std.proofs.Common.{length, ◌-◌, ◌≡◌, ◌≤◌, ◌++◌, take, drop}
use Rattle.gr_sched.specs.Text.{pieces_of}
use Rattle.gr_journal.specs.Parts.{before_bar, behind_bar}
use Rattle.gr_journal.proofs.text.split.Given as goal

abbrev pub invariant-pieces : goal.invariant-pieces
invariant-pieces l = record {
  within : l.start ≤ length l.bytes;
  scenario : before_bar (pieces_of l.bytes) ≡ take l.start l.bytes ++ before_bar (pieces_of (drop l.start l.bytes));
  journals : behind_bar (pieces_of l.bytes) ≡ behind_bar (pieces_of (drop l.start l.bytes));
}

abbrev pub decreases-pieces : goal.decreases-pieces
decreases-pieces l = length l.bytes - l.start
