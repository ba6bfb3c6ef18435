-- The turns of a client's run: what one arrival leads to, what several do, and what stands behind the last of them
use Rattle.std.specs.Prelude.{◌≡◌, ◌⊎◌, ℕ, ◌+◌, ◌^◌, ◌<◌, ◌≤◌, Bool, true, false, List, [], ◌++◌, length, Option, Result}
use Rattle.std.specs.Prelude.{Ok, Err}
use Rattle.std.specs.Prelude.{IsErrOf, OnOk, OnErr}
use Rattle.gr_note.specs.declared.node.TheConstants.{FIRST_CLIENT}
use Rattle.gr_out.specs.declared.fault.RunFault.{RunFault}
use Rattle.gr_out.specs.declared.fault.RunFault.TheVariants as run
use Rattle.gr_out.specs.Bytes.{with_more}
use Rattle.gr_out.specs.Entry.{Entry}
use Rattle.gr_out.specs.Page.{TakesFront}
use Rattle.gr_topo.specs.Topology.{TopologyView, host_of}
use Rattle.gr_client.specs.Came.{Arrival}
use Rattle.gr_client.specs.Moves.{IsExact, fault_entries, Begins}
use Rattle.gr_client.specs.Client.{ClientView}
use Rattle.gr_client.specs.Run.{after_all, turns_text, turns_entries, closing, last_line}
use Rattle.gr_client.specs.Ran.{IsRunning, HasEnded, RunsThrough}

-- the client of a publisher of a topology, whose node has a number
pub record IsClientOf (t : TopologyView) (p : ℕ) (c : ClientView) : Type 0 where
  pub publisher : p < length t.publishers
  pub node : FIRST_CLIENT + c.publisher < 2 ^ 16

-- what came in a turn that ended so: one arrival, or that nothing comes any more. Where a turn failed it may be that
-- nothing came
abbrev pub CameIn : Result Bool RunFault → List Arrival → Bool → Type 0
CameIn (Ok true) came shut = (length came ≡ 1) × (shut ≡ false)
CameIn (Ok false) came shut = (came ≡ []) × (shut ≡ true)
CameIn (Err e) came shut = (length came ≤ 1) × (shut ≡ false)

-- what arrivals put into the journal, and then that nothing comes any more
abbrev pub came_entries : TopologyView → ℕ → ClientView → List Arrival → Bool → List Entry
came_entries t p c came shut = turns_entries (host_of t p) c came ++ closing shut

-- Arrivals were taken, and all was done that they cause, or all up to a call that was refused. After want of memory, or
-- a failure of the sink, only fronts are told
pub record Took {T : Type 0} (t : TopologyView) (p : ℕ) (tells : Type 0) (came : List Arrival) (shut : Bool)
    (c c' : ClientView) (taken taken' : Option (List ℕ)) (journal journal' : List Entry) (result : Result T RunFault)
    : Type 0 where
  pub client : OnOk result (c' ≡ after_all c came)
  pub told : IsExact result → taken' ≡ with_more taken (turns_text t p c came)
  pub told_front : OnErr result (TakesFront taken taken' (turns_text t p c came))
  pub sent : IsExact result → tells → journal' ≡ journal ++ (came_entries t p c came shut ++ fault_entries result)
  pub sent_front : (IsExact result → ⊥) → tells → Begins journal journal' (came_entries t p c came shut)

-- A turn
pub record Turned (t : TopologyView) (p : ℕ) (tells : Type 0) (c c' : ClientView) (taken taken' : Option (List ℕ))
    (journal journal' : List Entry) (result : Result Bool RunFault) : Type 0 where
  pub came : List Arrival
  pub shut : Bool
  pub ends : CameIn result came shut
  pub took : Took {T = Bool} t p tells came shut c c' taken taken' journal journal' result

-- Arrivals were taken while the client ran, until it had ended, or nothing came any more, or there were as many as may
-- be
pub record Ended (turns : ℕ) (came : List Arrival) (shut : Bool) (c : ClientView) (result : Result (Unit {0}) RunFault)
    : Type 0 where
  pub within : length came ≤ turns
  pub runs : RunsThrough c came
  pub open_until : shut ≡ true → IsRunning (after_all c came).progress
  pub ended : OnOk result ((shut ≡ true) ⊎ ((length came ≡ turns) ⊎ HasEnded (after_all c came).progress))

-- The turns of a run
pub record WentOn (t : TopologyView) (p : ℕ) (tells : Type 0) (turns : ℕ) (c c' : ClientView)
    (taken taken' : Option (List ℕ)) (journal journal' : List Entry) (result : Result (Unit {0}) RunFault)
    : Type 0 where
  pub came : List Arrival
  pub shut : Bool
  pub ends : Ended turns came shut c result
  pub took : Took {T = Unit {0}} t p tells came shut c c' taken taken' journal journal' result

-- what the turns tell, and then how far the client is
abbrev pub whole_text : TopologyView → ℕ → ClientView → List Arrival → List ℕ
whole_text t p c came = turns_text t p c came ++ last_line t p (length c.events) (after_all c came).progress

-- The turns of a run, and behind them the last line
pub record Finished (t : TopologyView) (p : ℕ) (tells : Type 0) (turns : ℕ) (c : ClientView)
    (taken taken' : Option (List ℕ)) (journal journal' : List Entry) (result : Result (Unit {0}) RunFault)
    : Type 0 where
  pub came : List Arrival
  pub shut : Bool
  pub ends : Ended turns came shut c result
  pub report : OnOk result (taken' ≡ with_more taken (whole_text t p c came))
  pub failed : IsErrOf result run.Post → taken' ≡ with_more taken (turns_text t p c came)
  pub told_front : OnErr result (TakesFront taken taken' (whole_text t p c came))
  pub sent : IsExact result → tells → journal' ≡ journal ++ (came_entries t p c came shut ++ fault_entries result)
  pub sent_front : (IsExact result → ⊥) → tells → Begins journal journal' (came_entries t p c came shut)
