-- A broker's answer, and what becomes of a datagram, in the words of a run
use Rattle.std.specs.Prelude.{◌≡◌, ℕ, [], ◌∷◌, Result, Ok, Err}
use Rattle.std.specs.declared.alloc.AllocError.{AllocError}
use Rattle.gr_out.specs.declared.fault.RunFault.{RunFault}
use Rattle.gr_out.specs.declared.fault.RunFault.TheVariants as run
use Rattle.gr_model.specs.declared.report.Report.{Report}
use Rattle.gr_model.specs.declared.report.Report.TheVariants as line
use Rattle.gr_model.specs.Arrivals.{fault_number}
use Rattle.gr_broker_relay.specs.declared.outcome.Outcome.{Outcome}
use Rattle.gr_broker.specs.declared.outcome.BrokerFault.{BrokerFault}
use Rattle.gr_broker.specs.declared.outcome.BrokerFault.TheVariants as refused
use Rattle.gr_broker.specs.declared.outcome.Received.{Received}
use Rattle.gr_broker.specs.declared.outcome.Received.TheVariants as answer
use Rattle.gr_broker.specs.declared.outcome.Dropped.{Dropped}
use Rattle.gr_broker.specs.declared.outcome.Dropped.TheVariants as dropped

-- what a broker tells is passed on, and so are want of memory and a failure of the disk; no other fault comes
abbrev pub Follows : Result Outcome BrokerFault → Result Outcome RunFault → Type 0
Follows (Ok told) result = result ≡ Ok told
Follows (Err refused.Memory) result = result ≡ Err run.Memory
Follows (Err refused.Disk) result = result ≡ Err run.Disk
Follows (Err refused.Reopen) result = ⊥
Follows (Err (refused.Damaged p at)) result = ⊥

-- the line of a datagram that is dropped
abbrev pub line_of_drop : ℕ → Dropped → Report
line_of_drop b (dropped.NotFrame fault) = line.DroppedNotFrame b (fault_number fault.kind) fault.at
line_of_drop b (dropped.Stray head) = line.DroppedStray b head.from head.to head.publisher
line_of_drop b (dropped.Split at kept came) = line.DroppedSplit b at kept came
line_of_drop b (dropped.Clash clash) = line.DroppedClash b clash.tick clash.kept clash.came

-- what is told of a datagram: what the broker tells where it is taken, and its one line where it is dropped
abbrev pub IsToldOf : ℕ → Received → Outcome → Type 0
IsToldOf b (answer.Taken o) told = told ≡ o
IsToldOf b (answer.Dropped d) told = (told.reports ≡ line_of_drop b d ∷ []) × (told.frames.frames ≡ [])

-- no fault comes but want of memory
abbrev pub FollowsReceipt : ℕ → Result Received AllocError → Result Outcome RunFault → Type 0
FollowsReceipt b (Ok a) (Ok told) = IsToldOf b a told
FollowsReceipt b (Ok a) (Err e) = e ≡ run.Memory
FollowsReceipt b (Err x) result = result ≡ Err run.Memory
