use Rattle.std.proofs.Common.{length, ◌≡◌, ◌≤◌, take}
use Rattle.gr_sched.specs.Words.{trimmed_end}
use Rattle.gr_sched.proofs.words.without_end_gaps.Given as goal

abbrev pub invariant-gaps : goal.invariant-gaps
invariant-gaps l = record {
  within : l.end ≤ length l.text;
  same : trimmed_end l.text ≡ trimmed_end (take l.end l.text);
}

abbrev pub decreases-gaps : goal.decreases-gaps
decreases-gaps l = l.end
