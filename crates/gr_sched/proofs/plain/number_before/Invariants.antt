use Rattle.std.proofs.Common.{◌≡◌, ◌-◌, ◌<◌, ◌≤◌, ◌^◌, true, take}
use Rattle.std.specs.List.{list_all}
use Rattle.gr_sched.specs.Words.{is_digit, value_after}
use Rattle.gr_sched.proofs.plain.number_before.Given as goal

abbrev pub invariant-digits : goal.invariant-digits
invariant-digits l = record {
  few : l.end ≤ 19;
  digits : list_all is_digit (take l.end l.text) ≡ true;
  value : value_after 0 (take l.end l.text) ≡ l.number;
  small : l.number < 10 ^ l.end;
}

abbrev pub decreases-digits : goal.decreases-digits
decreases-digits l = 19 - l.end
