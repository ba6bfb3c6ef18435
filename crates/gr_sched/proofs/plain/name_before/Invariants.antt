use Rattle.std.proofs.Common.{length, ◌≡◌, ◌-◌, ◌≤◌, true, take}
use Rattle.std.specs.Prelude.{nat_lt}
use Rattle.std.specs.List.{list_all}
use Rattle.gr_sched.proofs.plain.name_before.Given as goal

abbrev pub invariant-bytes : goal.invariant-bytes
invariant-bytes l = record {
  within : l.end ≤ length l.text;
  visible : list_all (λ b. nat_lt 32 b) (take l.end l.text) ≡ true;
}

abbrev pub decreases-bytes : goal.decreases-bytes
decreases-bytes l = length l.text - l.end
