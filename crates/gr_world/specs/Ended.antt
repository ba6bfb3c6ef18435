-- How a wake or a sweep ends that is ended at a log: what of it was made before, and what stands of the last part
use Rattle.std.specs.Prelude.{◌≡◌, ◌⊎◌, ℕ, List, ◌∷◌, ◌++◌, Result, Err, IsErrOf}
use Rattle.gr_model.specs.declared.report.Report.{Report}
use Rattle.gr_model.specs.Net.{Net}
use Rattle.gr_model.specs.World.{World, Transition, in_turn, wake_up, inwards, outwards}
use Rattle.gr_broker.specs.Seen.{broken_at}
use Rattle.gr_broker.specs.Hosted.{after_mark}
use Rattle.gr_world.specs.declared.fault.WorldFault.{WorldFault}
use Rattle.gr_world.specs.declared.fault.WorldFault.TheVariants as fault
use Rattle.gr_world.specs.Seen.{WorldView, broker_in, world_of}
use Rattle.gr_world.specs.Disk.{IsWakeBarred}
use Rattle.gr_world.specs.Ran.{Keeps}
use Rattle.gr_world.specs.Stopped.{broken_in}
use Rattle.gr_world.specs.Sweeps.{handed}
use Rattle.gr_world.specs.Taking.{put_in}

-- the answer that ends it: the disk failed, or it has failed the log before
abbrev pub IsEnd : Result (List Report) WorldFault → Type 0
IsEnd (Err fault.Disk) = Unit {0}
IsEnd (Err fault.Reopen) = Unit {0}
IsEnd _ = ⊥

-- the world whose broker has marked its log of a publisher, which the disk has failed then; nothing was sent
abbrev pub marked_broken_in : WorldView → ℕ → ℕ → WorldView
marked_broken_in w b p = put_in w b (broken_at (after_mark w.topo (broker_in w b) p w.clock) p) w.frames

-- a wake of a broker for a publisher was refused, since it would append to a broken log, and nothing has changed; or
-- the disk failed it, at its mark or at its cut, and the log is broken
pub record WakeEnds (b p : ℕ) (result : Result (List Report) WorldFault) (old new : WorldView) : Type 0 where
  pub closed : IsErrOf result fault.Reopen → new ≡ old
  pub barred : IsErrOf result fault.Reopen → IsWakeBarred old b p
  pub failed : IsErrOf result fault.Disk → (new ≡ broken_in old b p) ⊎ (new ≡ marked_broken_in old b p)

-- Of a list in turn, so many were done, and at the next one it ended
pub record EndsAt (f : World → ℕ → Transition) (ends : ℕ → WorldView → WorldView → Type 0) (items : List ℕ)
    (old new : WorldView) : Type 0 where
  pub done : List ℕ
  pub item : ℕ
  pub left : List ℕ
  pub order : items ≡ done ++ item ∷ left
  pub mid : WorldView  -- the world before that one: all else is as it was, and it is the machine's
  pub keeps : Keeps old mid
  pub reached : world_of mid ≡ (in_turn f done (world_of old)).world
  pub last : ends item mid new

-- brokers are woken in turn for a publisher, each with the curiosity that this sends
abbrev pub WakesEnd : Net → ℕ → List ℕ → Result (List Report) WorldFault → WorldView → WorldView → Type 0
WakesEnd net p inward result old new = EndsAt (wake_up net p) (λ b. WakeEnds b p result) inward old new

-- the same once the first two phases of a sweep are done
pub record EndsHanded (net : Net) (p : ℕ) (inward outward : List ℕ) (result : Result (List Report) WorldFault)
    (old new : WorldView) : Type 0 where
  pub mid : WorldView
  pub keeps : Keeps old mid
  pub reached : world_of mid ≡ (handed net p inward outward (world_of old)).world
  pub last : WakesEnd net p inward result mid new

-- the sweep of a publisher ends at a wake, of the first phase or of the third
abbrev pub PhasesEnd : Net → ℕ → List ℕ → List ℕ → Result (List Report) WorldFault → WorldView → WorldView → Type 0
PhasesEnd net p inward outward result old new =
    WakesEnd net p inward result old new ⊎ EndsHanded net p inward outward result old new

abbrev pub SweepEnds : Net → Result (List Report) WorldFault → ℕ → WorldView → WorldView → Type 0
SweepEnds net result p old new = PhasesEnd net p (inwards net p) (outwards net p) result old new
