-- What a call that takes the disk does to it
use Rattle.std.specs.Prelude.{◌≡◌, ◌≢◌, ◌⊎◌, ◌↔◌, ℕ, ◌≤◌, ◌<◌, true, List, length, Result, Err, IsErrOf}
use Rattle.std.specs.Prelude.{IsSome}
use Rattle.gr_event.specs.declared.event.Event.{Event}
use Rattle.gr_out.specs.Lane.{Lane}
use Rattle.gr_out.specs.Stops.{StaysFaultless}
use Rattle.gr_publog.specs.Crash.{EitherRose}
use Rattle.gr_publog.specs.Views.{AwayFrom}
use Rattle.gr_sched.specs.declared.step.Step.{Step}
use Rattle.gr_topo.specs.Topology.{TopologyView, host_of}
use Rattle.gr_model.specs.declared.report.Report.{Report}
use Rattle.gr_broker.specs.Seen.{log_in, is_broken}
use Rattle.gr_broker.specs.Lanes.{log_lane}
use Rattle.gr_broker.specs.Hosted.{publish_logs_at, join_logs_at, mark_logs_at, cut_at}
use Rattle.gr_world.specs.declared.fault.WorldFault.{WorldFault}
use Rattle.gr_world.specs.declared.fault.WorldFault.TheVariants as fault
use Rattle.gr_world.specs.Seen.{WorldView, broker_in, log_at}
use Rattle.gr_world.specs.Of.{IsSound}
use Rattle.gr_world.specs.Steps.{NotMemory, refused_at}

-- an answer other than that the disk failed
abbrev pub NotDisk : {T : Type 0} → Result T WorldFault → Type 0
NotDisk (Err fault.Disk) = ⊥
NotDisk _ = Unit {0}

-- How the two counts of the disk move: of failures, and of calls that a stop broke. None ever falls, and one has risen
-- where the answer is that the disk failed
pub record Counts {T : Type 0} (faults stops faults' stops' : ℕ) (result : Result T WorldFault) : Type 0 where
  pub faults_never_fall : faults ≤ faults'
  pub stops_never_fall : stops ≤ stops'
  pub rose : IsErrOf result fault.Disk → EitherRose faults faults' stops stops'

-- A call that cannot fail moves neither, and a faultless disk stays one
pub record KeepsCounts {S : Type 0} (faultless : S → Type 0) (faults stops : S → ℕ) (old new : S) : Type 0 where
  pub faults_same : faults new ≡ faults old
  pub stops_same : stops new ≡ stops old
  pub faultless_stays : StaysFaultless (faultless old) (faultless new) (faults old) (faults new)

-- What a call does to the disk beside its lanes: how its counts move, and that a faultless disk stays one and never
-- fails it
pub record UsesDisk (faultless faultless' : Type 0) (faults stops faults' stops' : ℕ)
    (result : Result (List Report) WorldFault) : Type 0 where
  pub counts : Counts faults stops faults' stops' result
  pub faultless_stays : StaysFaultless faultless faultless' faults faults'
  pub never_fails : faultless → result ≢ Err fault.Disk

abbrev pub TakesDisk : {S : Type 0} → (S → Type 0) → (S → ℕ) → (S → ℕ) → S → S → Result (List Report) WorldFault → Type 0
TakesDisk faultless faults stops old new result =
    UsesDisk (faultless old) (faultless new) (faults old) (stops old) (faults new) (stops new) result

-- no lane is touched but those of the publishers
abbrev pub LeavesOthers : TopologyView → (ℕ → Lane) → (ℕ → Lane) → Type 0
LeavesOthers t before after =
    (n : ℕ) → ((p : ℕ) → p < length t.publishers → AwayFrom (log_lane p) n) → after n ≡ before n

-- Only an answer that the disk failed leaves a log broken or a broker down; while there is none, nothing has to be
-- opened again
pub record StaysSound {T : Type 0} (old new : WorldView) (result : Result T WorldFault) : Type 0 where
  pub sound : IsSound old → NotDisk result → IsSound new
  pub opened : IsSound old → result ≢ Err fault.Reopen

-- While a broker is down, each call that changes brokers is closed: it changes nothing
abbrev pub IsClosed : {T : Type 0} → WorldView → WorldView → Result T WorldFault → Type 0
IsClosed old new result = IsSome old.down → (result ≡ Err fault.Reopen) × (new ≡ old)

-- a publish that would append to a log that the disk has failed
abbrev pub IsBarred : WorldView → ℕ → ℕ → Event → Type 0
IsBarred w p number e = (is_broken (log_at w p) ≡ true)
    × IsSome (publish_logs_at (broker_in w (host_of w.topo p)) p w.clock number e)

-- the same of the join of a subscriber
abbrev pub IsBarredJoin : WorldView → ℕ → ℕ → Type 0
IsBarredJoin w p s = (is_broken (log_at w p) ≡ true)
    × IsSome (join_logs_at (broker_in w (host_of w.topo p)) p s w.clock)

-- a wake of a broker for a publisher that would append a mark or a cut to a log that the disk has failed
abbrev pub IsWakeBarred : WorldView → ℕ → ℕ → Type 0
IsWakeBarred w b p =
    let x = broker_in w b in
    (is_broken (log_in x p) ≡ true)
    × (IsSome (mark_logs_at w.topo x p w.clock) ⊎ IsSome (cut_at w.topo x p w.clock))

-- a wake for all publishers that would do so for one of them
pub record BarsWake (w : WorldView) (b : ℕ) : Type 0 where
  pub publisher : ℕ
  pub below : publisher < length w.topo.publishers
  pub barred : IsWakeBarred w b publisher

-- the disk has failed a log
pub record HasBroken (w : WorldView) : Type 0 where
  pub publisher : ℕ
  pub below : publisher < length w.topo.publishers
  pub broken : is_broken (log_at w publisher) ≡ true

-- Where neither memory was refused nor the disk failed on the way, `Reopen` is answered exactly where this holds
abbrev pub ReopensWhere : Type 0 → Result (List Report) WorldFault → Type 0
ReopensWhere barred result = NotMemory result → NotDisk result → (IsErrOf result fault.Reopen ↔ barred)

-- memory was refused before, the step may not be made, or a broker is down: then the disk is not called
abbrev pub IsIdle : WorldView → Step → Type 0
IsIdle w s = (w.spent ≡ true) ⊎ (IsSome (refused_at w s) ⊎ IsSome w.down)
