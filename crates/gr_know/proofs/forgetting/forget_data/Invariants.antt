use Rattle.std.proofs.Common.{◌≡◌, ◌+◌, ◌-◌, ◌≤◌, ◌++◌, length, take, drop}
use Rattle.gr_know.specs.Forget.{data_count, lower_data}
use Rattle.gr_know.proofs.forgetting.forget_data.Given as goal

-- the runs so far, and the rest with what is left to lower, are what is to come out
abbrev pub invariant-loop-left : goal.invariant-loop-left
invariant-loop-left l = record {
  within : l.i ≤ length l.stream.runs;
  fewer : l.left ≤ l.count;
  counted : data_count l.stream.runs + (l.count - l.left) ≡ data_count l.fn.stream.runs;
  done : take l.i l.stream.runs ++ lower_data l.left l.upto (drop l.i l.stream.runs) ≡ lower_data l.count l.upto l.fn.stream.runs;
}

abbrev pub decreases-loop-left : goal.decreases-loop-left
decreases-loop-left l = length l.stream.runs - l.i
