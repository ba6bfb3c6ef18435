-- One broker's call or several within a step: what they leave beside the machine's equation
use Rattle.std.specs.Prelude.{◌≡◌, ◌≢◌, true, false, ℕ, ◌<◌, List, ◌++◌, length, None, Result, Err}
use Rattle.gr_model.specs.declared.report.Report.{Report}
use Rattle.gr_world.specs.declared.fault.WorldFault.{WorldFault}
use Rattle.gr_world.specs.declared.fault.WorldFault.TheVariants as fault
use Rattle.gr_broker.specs.declared.outcome.BrokerFault.{BrokerFault}
use Rattle.gr_broker.specs.declared.outcome.BrokerFault.TheVariants as refused
use Rattle.gr_broker.specs.Seen.{view_in, log_in, is_broken}
use Rattle.gr_world.specs.Seen.{WorldView, broker_in, log_at}
use Rattle.gr_world.specs.Of.{IsWorld}
use Rattle.gr_world.specs.Steps.{IsCarried}
use Rattle.gr_world.specs.Disk.{NotDisk, StaysSound, HasBroken}

-- no broker is down, and memory was not refused
pub record IsOpen (w : WorldView) : Type 0 where
  pub up : w.down ≡ None
  pub unspent : w.spent ≡ false

-- all stays but brokers, logs and further frames
pub record Keeps (old new : WorldView) : Type 0 where
  pub topo : new.topo ≡ old.topo
  pub told : new.told ≡ old.told
  pub clock : new.clock ≡ old.clock
  pub most : new.most ≡ old.most
  pub down : new.down ≡ old.down
  pub spent : new.spent ≡ old.spent
  pub more : List (List ℕ)
  pub frames : new.frames ≡ old.frames ++ more

pub record Ran (old new : WorldView) (result : Result (List Report) WorldFault) : Type 0 where
  pub fits : IsWorld new
  pub keeps : Keeps old new
  pub carried : IsCarried result
  pub sound : StaysSound old new result
  -- a log that the disk has failed stays as it is, and any other is as whole, unless the disk fails it now
  pub closed : (p : ℕ) → p < length old.topo.publishers → is_broken (log_at old p) ≡ true → log_at new p ≡ log_at old p
  pub whole : NotDisk result → (p : ℕ) → p < length old.topo.publishers → is_broken (log_at old p) ≡ false
      → is_broken (log_at new p) ≡ false
  -- only such a log has to be opened again
  pub reopen : result ≡ Err fault.Reopen → HasBroken old

-- What one broker's call for one publisher leaves as it is: all other brokers, and of this one all other publishers
pub record TouchesOne (b p : ℕ) (old new : WorldView) : Type 0 where
  pub brokers : (c : ℕ) → c ≢ b → broker_in new c ≡ broker_in old c
  pub views : (q : ℕ) → q ≢ p → view_in (broker_in new b) q ≡ view_in (broker_in old b) q
  pub logs : (q : ℕ) → q ≢ p → log_in (broker_in new b) q ≡ log_in (broker_in old b) q

-- a broker's fault as one of the world
abbrev pub fault_in : BrokerFault → WorldFault
fault_in refused.Memory = fault.Memory
fault_in refused.Disk = fault.Disk
fault_in refused.Reopen = fault.Reopen
fault_in (refused.Damaged p at) = fault.Damaged p at

-- the world where it is noted that memory was refused
abbrev pub with_spent : WorldView → WorldView
with_spent w = record {
  topo = w.topo;
  brokers = w.brokers;
  frames = w.frames;
  clock = w.clock;
  most = w.most;
  told = w.told;
  down = w.down;
  spent = true;
}

abbrev pub noted_in : WorldView → Result (List Report) WorldFault → WorldView
noted_in w (Err fault.Memory) = with_spent w
noted_in w _ = w
