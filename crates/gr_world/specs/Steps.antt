-- A call on a world is a step of the machine, or is refused by its cause
use Rattle.std.specs.Prelude.{◌≡◌, ℕ, true, false, nat_lt, List, [], ◌∷◌, ◌++◌, length, Option, Some, None}
use Rattle.std.specs.Prelude.{Result, Ok, Err, IsErrOf, OnOk, IfOk}
use Rattle.gr_sched.specs.declared.step.Step.{Step}
use Rattle.gr_sched.specs.declared.step.Step.TheVariants as step
use Rattle.gr_topo.specs.Topology.{host_of, subscribers_of, not_empty}
use Rattle.gr_model.specs.declared.report.Report.{Report}
use Rattle.gr_model.specs.declared.report.Report.TheVariants as line
use Rattle.gr_model.specs.Broker.{max_tick}
use Rattle.gr_model.specs.World.{Transition, frame_at, sweep_moment, next}
use Rattle.gr_world.specs.declared.fault.WorldFault.{WorldFault}
use Rattle.gr_world.specs.declared.fault.WorldFault.TheVariants as fault
use Rattle.gr_world.specs.Seen.{WorldView, world_of, net_in}

-- the frame that a step names
abbrev pub frame_of_step : Step → ℕ
frame_of_step (step.Deliver frame) = frame
frame_of_step (step.Bytes frame) = frame
frame_of_step _ = 0

-- the line of a refused step, at a line of the schedule; other faults have none
abbrev pub refusal_line : ℕ → Step → WorldFault → Option Report
refusal_line n s (fault.HostsSubscriber b) = Some (line.RefusedHosts n b)
refusal_line n s (fault.NoFrame sent) = Some (line.RefusedFrame n (frame_of_step s) sent)
refusal_line n s (fault.ClockRange at) = Some (line.RefusedClock n at)
refusal_line n s _ = None

-- the lines that a step tells by its answer: those of the call, or that of the refusal; none after another fault
abbrev pub lines_of_refusal : Option Report → Option (List Report)
lines_of_refusal (Some l) = Some (l ∷ [])
lines_of_refusal None = None

abbrev pub lines_of_step : ℕ → Step → Result (List Report) WorldFault → Option (List Report)
lines_of_step n s (Ok lines) = Some lines
lines_of_step n s (Err e) = lines_of_refusal (refusal_line n s e)

-- The call is the machine's step: it leaves that step's world, and tells its lines
abbrev pub Makes : Step → WorldView → WorldView → Result (List Report) WorldFault → Type 0
Makes s old new result =
    (n : ℕ) (lines : List Report) → lines_of_step n s result ≡ Some lines
    → next (net_in old) (world_of old) (record { number = n; step = s })
    ≡ record { world = world_of new; lines = lines }

-- The same of a part of a step, of what it leaves and tells
pub record Does (t : Transition) (new : WorldView) (result : Result (List Report) WorldFault) : Type 0 where
  pub world : OnOk result (world_of new ≡ t.world)
  pub lines : IfOk result (λ ls. ls ≡ t.lines)

-- Why a step is refused, tested before all else: the broker to be crashed hosts a subscriber, there is no frame of the
-- number, or the sweep's moment is past the last tick
abbrev pub hosts_refusal : WorldView → ℕ → Option WorldFault
hosts_refusal w b = elim (not_empty (subscribers_of w.topo b)) [ true ↦ Some (fault.HostsSubscriber b) | false ↦ None ]

abbrev pub frame_refusal : WorldView → ℕ → Option WorldFault
frame_refusal w k = elim (frame_at (world_of w) k) [ None ↦ Some (fault.NoFrame (length w.frames)) | Some f ↦ None ]

abbrev pub refused_at : WorldView → Step → Option WorldFault
refused_at w (step.Publish p number (Some stop) e) = hosts_refusal w (host_of w.topo p)
refused_at w (step.Deliver k) = frame_refusal w k
refused_at w (step.Crash b) = hosts_refusal w b
refused_at w step.Sweep =
    let m = sweep_moment (net_in w) (world_of w) in
    elim (nat_lt max_tick m) [ true ↦ Some (fault.ClockRange m) | false ↦ None ]
refused_at w (step.Bytes k) = frame_refusal w k
refused_at w _ = None

-- the answer is no refusal
abbrev pub IsCarried : Result (List Report) WorldFault → Type 0
IsCarried (Ok lines) = Unit {0}
IsCarried (Err fault.Memory) = Unit {0}
IsCarried (Err fault.Disk) = Unit {0}
IsCarried (Err fault.Reopen) = Unit {0}
IsCarried (Err _) = ⊥

-- Exactly then it is refused, and nothing has changed
pub record Refuses (s : Step) (old new : WorldView) (result : Result (List Report) WorldFault) : Type 0 where
  pub refused : old.spent ≡ false → (e : WorldFault) → refused_at old s ≡ Some e → (result ≡ Err e) × (new ≡ old)
  pub carried : old.spent ≡ false → refused_at old s ≡ None → IsCarried result

-- an answer other than want of memory
abbrev pub NotMemory : Result (List Report) WorldFault → Type 0
NotMemory (Err fault.Memory) = ⊥
NotMemory _ = Unit {0}

-- Once memory was refused, it is refused for good, and nothing changes any more
pub record Spends (old new : WorldView) (result : Result (List Report) WorldFault) : Type 0 where
  pub spent : old.spent ≡ true → (result ≡ Err fault.Memory) × (new ≡ old)
  pub refused : IsErrOf result fault.Memory → new.spent ≡ true
  pub had : NotMemory result → new.spent ≡ false

-- What no call changes: the topology, what the opening told, and the frames that were sent
pub record Stays (old new : WorldView) : Type 0 where
  pub topo : new.topo ≡ old.topo
  pub told : new.told ≡ old.told
  pub more : List (List ℕ)
  pub frames : new.frames ≡ old.frames ++ more
