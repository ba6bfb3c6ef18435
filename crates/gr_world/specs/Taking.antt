-- A broker's answer is taken up by the world
use Rattle.std.specs.Prelude.{◌≡◌, ℕ, suc, List, [], ◌++◌, length, map, set, Result, Ok, Err, IfOk, OnOk, OnErr}
use Rattle.std.specs.declared.alloc.AllocError.{AllocError}
use Rattle.gr_frame.specs.Bytes.{frame_bytes}
use Rattle.gr_model.specs.declared.report.Report.{Report}
use Rattle.gr_model.specs.Broker.{Outcome as MachineOutcome}
use Rattle.gr_model.specs.World.{sent_lines}
use Rattle.gr_broker_relay.specs.declared.outcome.Outcome.{Outcome}
use Rattle.gr_broker_relay.specs.Told.{Tells}
use Rattle.gr_broker.specs.declared.outcome.BrokerFault.{BrokerFault}
use Rattle.gr_broker.specs.declared.outcome.Received.{Received}
use Rattle.gr_broker.specs.declared.outcome.Received.TheVariants as answer
use Rattle.gr_broker.specs.declared.outcome.Dropped.TheVariants as dropped
use Rattle.gr_broker.specs.Seen.{BrokerView}
use Rattle.gr_world.specs.declared.fault.WorldFault.{WorldFault}
use Rattle.gr_world.specs.declared.fault.WorldFault.TheVariants as fault
use Rattle.gr_world.specs.Seen.{WorldView}
use Rattle.gr_world.specs.Ran.{fault_in}

-- the answer is lines, or that memory was refused
abbrev pub IsTaken : Result (List Report) WorldFault → Type 0
IsTaken (Ok lines) = Unit {0}
IsTaken (Err e) = e ≡ fault.Memory

-- a broker's fault is passed on, and what it tells is taken up
abbrev pub Follows : Result Outcome BrokerFault → Result (List Report) WorldFault → Type 0
Follows (Err e) result = result ≡ Err (fault_in e)
Follows (Ok told) result = IsTaken result

-- so is want of memory at a receipt, and what it tells is taken up
abbrev pub FollowsReceipt : Result Received AllocError → Result (List Report) WorldFault → Type 0
FollowsReceipt (Err e) result = result ≡ Err fault.Memory
FollowsReceipt (Ok a) result = IsTaken result

-- The lines of an outcome are told, and its frames stand behind those before; at a fault these stay as they were
pub record TakesUp (o : MachineOutcome) (before after : List (List ℕ))
    (result : Result (List Report) WorldFault) : Type 0 where
  pub lines : IfOk result (λ ls. ls ≡ o.lines ++ sent_lines (suc (length before)) o.frames)
  pub frames : OnOk result (after ≡ before ++ map frame_bytes o.frames)
  pub kept : OnErr result (after ≡ before)

-- a datagram was taken as this outcome, or dropped since it splits or clashes, where the outcome is none
abbrev pub IsReceived : MachineOutcome → Received → Type 0
IsReceived o (answer.Taken told) = Tells o told
IsReceived o (answer.Dropped (dropped.Split at kept came)) = (o.lines ≡ []) × (o.frames ≡ [])
IsReceived o (answer.Dropped (dropped.Clash c)) = (o.lines ≡ []) × (o.frames ≡ [])
IsReceived o _ = ⊥

-- the world with one broker exchanged, and with other frames
abbrev pub put_in : WorldView → ℕ → BrokerView → List (List ℕ) → WorldView
put_in w b broker frames = record {
  topo = w.topo;
  brokers = set w.brokers b broker;
  frames = frames;
  clock = w.clock;
  most = w.most;
  told = w.told;
  down = w.down;
  spent = w.spent;
}
