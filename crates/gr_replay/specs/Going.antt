-- What a replay keeps of a world between two steps, and what its parts answer
use Rattle.std.specs.Prelude.{◌≡◌, ◌≢◌, ℕ, ◌≤◌, false, List, [], ◌∷◌, ◌++◌, Result, Err, IsErrOf}
use Rattle.gr_out.specs.Faults.{Rose}
use Rattle.gr_out.specs.declared.fault.RunFault.{RunFault}
use Rattle.gr_out.specs.declared.fault.RunFault.TheVariants as run
use Rattle.gr_publog.specs.Crash.{EitherRose}
use Rattle.gr_sched.specs.declared.step.Line.{Line}
use Rattle.gr_model.specs.declared.report.Report.{Report}
use Rattle.gr_model.specs.Orders.{Order, fed, ordered, without_ordered, with_orders}
use Rattle.gr_model.specs.Text.{labels_of, report_text}
use Rattle.gr_model.specs.World.{next, run_from}
use Rattle.gr_world.specs.declared.fault.WorldFault.{WorldFault}
use Rattle.gr_world.specs.declared.fault.WorldFault.TheVariants as fault
use Rattle.gr_world.specs.Seen.{WorldView, net_in, world_of}
use Rattle.gr_world.specs.Of.{IsWorld, IsSound}
use Rattle.gr_world.specs.Disk.{NotDisk}
use Rattle.gr_replay.specs.Replayed.{all_lines}

-- no call on the world failed
pub record IsGoing (w : WorldView) : Type 0 where
  pub fits : IsWorld w
  pub sound : IsSound w
  pub unspent : w.spent ≡ false

-- the machine's step from one world leads to the other, and tells these lines
abbrev pub Tells : Line → WorldView → WorldView → List Report → Type 0
Tells l old new lines = next (net_in old) (world_of old) l ≡ record { world = world_of new; lines = lines }

-- the lines of a step, and behind them what is ready then in the lists; and the lists that are left
abbrev pub with_ready : List Order → List Report → List Report
with_ready os lines = lines ++ ordered (fed os lines)

abbrev pub left_behind : List Order → List Report → List Order
left_behind os lines = without_ordered (fed os lines)

-- the lists that the lines of some steps leave
abbrev pub orders_after : List Order → List (List Report) → List Order
orders_after os [] = os
orders_after os (lines ∷ rest) = orders_after (left_behind os lines) rest

-- the text of one step, and of steps one after another, over the lists so far
abbrev pub step_text : WorldView → List Order → Line → List ℕ
step_text w os l = report_text (labels_of w.topo) (with_ready os (next (net_in w) (world_of w) l).lines)

abbrev pub text_from : WorldView → List Order → List Line → List ℕ
text_from w os lines = report_text (labels_of w.topo)
    (all_lines (with_orders os (run_from (net_in w) (world_of w) lines)))

-- how the two counts of the disk move, of failures and of calls that a stop broke
pub record DiskCounts {T : Type 0} (faults stops faults' stops' : ℕ) (result : Result T RunFault) : Type 0 where
  pub faults_never_fall : faults ≤ faults'
  pub stops_never_fall : stops ≤ stops'
  pub rose : IsErrOf result run.Disk → EitherRose faults faults' stops stops'

-- How the count of a sink's faults moves: it rises where the answer is that the sink failed, and nowhere else.
pub record SinkCounts {T : Type 0} (faults faults' : ℕ) (result : Result T RunFault) : Type 0 where
  pub rose : IsErrOf result run.Write → Rose faults faults'
  pub same : result ≢ Err run.Write → faults' ≡ faults

-- an answer other than that a lane holds no log
abbrev pub NotDamaged : {T : Type 0} → Result T WorldFault → Type 0
NotDamaged (Err (fault.Damaged p at)) = ⊥
NotDamaged _ = Unit {0}

-- why a step ends a replay, by the answer of its call: a disk that failed is never told as want of memory
abbrev pub IsCause : {T : Type 0} → RunFault → Result T WorldFault → Type 0
IsCause run.Memory answer = NotDisk answer
IsCause run.Disk answer = answer ≡ Err fault.Disk
IsCause _ answer = ⊥

-- why a world cannot be opened
abbrev pub IsOpeningFault : RunFault → Type 0
IsOpeningFault run.Memory = Unit {0}
IsOpeningFault run.Disk = Unit {0}
IsOpeningFault (run.Damaged p at) = Unit {0}
IsOpeningFault _ = ⊥

-- an opening's answer other than that a lane holds no log
abbrev pub NotDamagedRun : {T : Type 0} → Result T RunFault → Type 0
NotDamagedRun (Err (run.Damaged p at)) = ⊥
NotDamagedRun _ = Unit {0}

-- why a step ends a replay
abbrev pub IsStepFault : RunFault → Type 0
IsStepFault run.Memory = Unit {0}
IsStepFault run.Disk = Unit {0}
IsStepFault _ = ⊥

-- why steps end early that are written to a sink
abbrev pub IsRunFault : RunFault → Type 0
IsRunFault run.Memory = Unit {0}
IsRunFault run.Disk = Unit {0}
IsRunFault run.Write = Unit {0}
IsRunFault _ = ⊥
