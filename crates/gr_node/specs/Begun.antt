-- A broker that has started, before it is in its place
use Rattle.std.specs.Prelude.{◌≡◌, ℕ, ◌<◌, false, length, Some}
use Rattle.gr_out.specs.declared.fault.RunFault.{RunFault}
use Rattle.gr_out.specs.declared.fault.RunFault.TheVariants as run
use Rattle.gr_publog.specs.State.{IsState}
use Rattle.gr_publog.specs.Views.{LogView}
use Rattle.gr_topo.specs.Topology.{TopologyView}
use Rattle.gr_model.specs.NetOf.{net_of}
use Rattle.gr_broker.specs.declared.outcome.BrokerFault.{BrokerFault}
use Rattle.gr_broker.specs.declared.outcome.BrokerFault.TheVariants as refused
use Rattle.gr_broker.specs.Seen.{BrokerView, view_in, log_in, machine_log}
use Rattle.gr_broker.specs.Of.{IsBrokerOf}
use Rattle.gr_broker.specs.Opened.{opened_at}

-- what each log holds is a state
abbrev pub HoldStates : BrokerView → Type 0
HoldStates x = (p : ℕ) (l : LogView) → log_in x p ≡ Some l → IsState l.state

-- over the logs that it has
pub record HasBegun (t : TopologyView) (b : ℕ) (x : BrokerView) : Type 0 where
  pub number : x.number ≡ b
  pub fits : IsBrokerOf t x
  pub views : (p : ℕ) → p < length t.publishers → view_in x p ≡ (opened_at (net_of t) p b (machine_log x p)).view
  pub whole : (p : ℕ) (l : LogView) → log_in x p ≡ Some l → l.broken ≡ false
  pub states : HoldStates x

-- why it may not start
abbrev pub IsStartFault : RunFault → Type 0
IsStartFault run.Memory = Unit {0}
IsStartFault run.Disk = Unit {0}
IsStartFault (run.Damaged p at) = Unit {0}
IsStartFault _ = ⊥

-- as a fault of the run; a start never has to open a log again
abbrev pub start_fault : BrokerFault → RunFault
start_fault refused.Memory = run.Memory
start_fault refused.Disk = run.Disk
start_fault refused.Reopen = run.Disk
start_fault (refused.Damaged p at) = run.Damaged p at
