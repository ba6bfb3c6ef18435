-- A publish that stops within: the append that is broken, and the host's start over what is left
use Rattle.std.specs.Prelude.{◌≡◌, ◌≢◌, ◌⊎◌, ℕ, ◌<◌, suc, max, Bool, false, ◌&&◌, nat_eq, nat_le, List, ◌∷◌}
use Rattle.std.specs.Prelude.{if◌then◌else◌}
use Rattle.std.specs.Prelude.{length, get_or, Option, Some, None, Result, Ok, Err, IsErrOf, OnOk}
use Rattle.gr_event.specs.declared.event.Event.{Event}
use Rattle.gr_out.specs.Lane.{Lane, crash_image}
use Rattle.gr_publog.specs.declared.record.Record.TheVariants as entry
use Rattle.gr_publog.specs.Lanes.{lanes_text}
use Rattle.gr_publog.specs.Views.{LogView, Lanes, lanes_at, found_of}
use Rattle.gr_publog.specs.Calls.{log_left}
use Rattle.gr_model.specs.declared.report.Report.{Report}
use Rattle.gr_model.specs.declared.report.Report.TheVariants as line
use Rattle.gr_model.specs.Net.{Net}
use Rattle.gr_model.specs.Broker.{Log, empty_log, max_tick}
use Rattle.gr_model.specs.World.{World, Transition, restarted, opened_lines}
use Rattle.gr_broker.specs.declared.outcome.BrokerFault.{BrokerFault}
use Rattle.gr_broker.specs.declared.outcome.BrokerFault.TheVariants as refused
use Rattle.gr_broker.specs.Lanes.{log_lane}
use Rattle.gr_broker.specs.Seen.{broken_at}
use Rattle.gr_world.specs.declared.fault.WorldFault.{WorldFault}
use Rattle.gr_world.specs.declared.fault.WorldFault.TheVariants as fault
use Rattle.gr_topo.specs.Topology.{host_of}
use Rattle.gr_world.specs.Seen.{WorldView, broker_in, log_at, net_in, world_of}
use Rattle.gr_world.specs.Of.{IsWorld, IsReadable, IsSound}
use Rattle.gr_world.specs.Opened.{IsLeft, with_logs, with_down, IsSoundBut}
use Rattle.gr_world.specs.Steps.{Stays, IsCarried, NotMemory}
use Rattle.gr_world.specs.Disk.{StaysSound}
use Rattle.gr_world.specs.Taking.{put_in}

-- the tick at which a publish under a number is logged at a moment, where it is
abbrev pub tick_in : Log → ℕ → ℕ → Option ℕ
tick_in log number now =
    let tick : ℕ = max (suc log.settled) now in
    if nat_eq number (suc log.last) && nat_le tick max_tick then Some tick else None

-- The publish up to the stop. Its answer is Ok None where the stop broke it

-- it was the stop that broke a publish, given whether one of its lanes is stopped
abbrev pub is_broken_by : {T : Type 0} → Result T BrokerFault → Bool → Bool
is_broken_by (Err refused.Disk) stopped = stopped
is_broken_by _ stopped = false

-- the answer in the words of a step: a publish that the stop broke has failed
abbrev pub lines_in : Result (Option (List Report)) WorldFault → Result (List Report) WorldFault
lines_in (Ok (Some lines)) = Ok lines
lines_in (Ok None) = Err fault.Disk
lines_in (Err e) = Err e

-- the world whose broker has a log that the disk failed
abbrev pub broken_in : WorldView → ℕ → ℕ → WorldView
broken_in w b p = put_in w b (broken_at (broker_in w b) p) w.frames

-- What a publish or a join for a publisher leaves at a fault: where something has to be opened again all is as it was,
-- and where the disk failed the log is broken and all else stands
pub record LeavesAtFault {S T : Type 0} (p : ℕ) (old new : WorldView) (before after : S) (result : Result T WorldFault)
    : Type 0 where
  pub unchanged : IsErrOf result fault.Reopen → (new ≡ old) × (after ≡ before)
  pub failed : IsErrOf result fault.Disk → new ≡ broken_in old (host_of old.topo p) p

-- what a stopped publish leaves where the disk fails: the log is broken, and where the opening failed the host is down
abbrev pub BreaksStopped : ℕ → ℕ → WorldView → WorldView → Type 0
BreaksStopped b p old new = (new ≡ broken_in old b p) ⊎ (new ≡ with_down (broken_in old b p) b)

-- the log that a stop leaves of this one, which an event was to be logged in: the call and the pick tell whether it has
-- the event
abbrev pub stopped_log : LogView → ℕ → ℕ → Event → ℕ → ℕ → LogView
stopped_log l tick number e call pick = log_left l (Some (entry.Event tick number e)) call pick

-- What a stop leaves of the lanes of a publisher, whose event was to be logged at a tick: the images that a crash
-- leaves stand for that log
pub record IsStoppedAt (w : WorldView) (p tick number : ℕ) (e : Event) (call pick : ℕ) (ls : Lanes) : Type 0 where
  pub images : (l : LogView) → log_at w p ≡ Some l
      → lanes_text w.topo.late (crash_image ls.first) (crash_image ls.second)
      ≡ Ok (found_of (stopped_log l tick number e call pick))
  pub readable : IsReadable w.topo.late ls

-- The host's start

-- the line of a publish that was stopped
abbrev pub kept_line : Bool → ℕ → ℕ → ℕ → Report
kept_line kept p number tick = if kept then line.Kept p number tick else line.Lost p number tick

-- the machine's start of the host over the logs that were found: the event is kept where its number is the last one
abbrev pub stopped_over : Net → World → ℕ → ℕ → ℕ → ℕ → List Log → Transition
stopped_over net w b p number tick logs =
    let log : Log = get_or logs p empty_log in
    record {
      world = restarted net (with_logs w logs) b;
      lines = line.Crashed b ∷ (kept_line (nat_eq log.last number) p number tick ∷ opened_lines net logs b);
    }

-- A publish that was stopped, and its host's start again. The log has the event where the call and the pick keep it;
-- the other logs of the host are those that the crash left on their lanes, and all others are as they were. Over these
-- it is the machine's, whether the disk had failed a log or not
pub record StopsOver (p tick number : ℕ) (e : Event) (call pick : ℕ) (lanes : ℕ → Lane) (old new : WorldView)
    (lines : List Report) : Type 0 where
  pub own : (l m : LogView) → log_at old p ≡ Some l → log_at new p ≡ Some m
      → found_of m ≡ found_of (stopped_log l tick number e call pick)
  pub found : (q : ℕ) → q < length old.topo.publishers → q ≢ p → host_of old.topo q ≡ host_of old.topo p
      → IsLeft old.topo.late (log_at new q) (lanes_at lanes (log_lane q))
  pub elsewhere : (q : ℕ) → q < length old.topo.publishers → host_of old.topo q ≢ host_of old.topo p
      → log_at new q ≡ log_at old q
  pub over : (let w : World = world_of new in let b = host_of old.topo p in
      stopped_over (net_in old) (world_of old) b p number tick w.logs) ≡ record { world = world_of new; lines = lines }

-- what a publish that may stop leaves beside the machine's equation. After want of memory no call uses the world
pub record StopRan (old new : WorldView) (result : Result (List Report) WorldFault) : Type 0 where
  pub fits : IsWorld new
  pub stays : Stays old new
  pub spent : new.spent ≡ old.spent
  pub sound : NotMemory result → StaysSound old new result

-- the same of the host's start: it opens all logs of the host
pub record StopRestarts (b : ℕ) (old new : WorldView) (result : Result (List Report) WorldFault) : Type 0 where
  pub fits : IsWorld new
  pub stays : Stays old new
  pub spent : new.spent ≡ old.spent
  pub carried : IsCarried result
  pub sound : OnOk result (IsSoundBut b old → IsSound new)
  pub failed : IsErrOf result fault.Disk → new ≡ with_down old b
  pub never_reopen : result ≢ Err fault.Reopen
