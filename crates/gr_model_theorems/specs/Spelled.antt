-- What a schedule may name, and what holds of a world in which every tick and event is within the limits of frames
use Rattle.std.specs.Prelude.{◌≡◌, ℕ, suc, ◌≤◌, ◌<◌, ◌^◌, true, List, length}
use Rattle.std.specs.List.{AllByRecursion}
use Rattle.gr_event.specs.Limits.{IsEvent}
use Rattle.gr_event.specs.declared.limits.TheConstants.{MAX_JOINS}
use Rattle.gr_publog.specs.State.{AreHeld}
use Rattle.gr_tick.specs.declared.run.Run.{Run}
use Rattle.gr_curio.specs.declared.asks.Moment.{Moment}
use Rattle.gr_frame.specs.declared.Frame.{Frame}
use Rattle.gr_frame.specs.Bytes.{frame_bytes}
use Rattle.gr_frame.specs.Limits.{IsKnown, IsWanted, IsFrame}
pub use Rattle.gr_sched.specs.Ranges.{IsInLimits}
use Rattle.gr_sched.specs.declared.step.Line.{Line}
use Rattle.gr_model.specs.Net.{Net, is_late}
use Rattle.gr_model.specs.Broker.{View, Log, max_tick}
use Rattle.gr_model.specs.World.{World}

-- each step is within its limits, as the parser promises: no moment past the last tick, no event past the limits of
-- events
abbrev pub NumbersIn : List Line → Type 0
NumbersIn steps = AllByRecursion (λ l. IsInLimits l.step) steps

-- the bytes of a frame spell it, and fit into one frame
abbrev pub IsSpelled : Frame → Type 0
IsSpelled f = IsFrame (frame_bytes f) f

-- a run ends by the last tick, and its value is within the limits
pub record IsRunIn {V : Type 0} (Fits : V → Type 0) (r : Run V) : Type 0 where
  pub first : r.first ≤ suc max_tick
  pub last : r.last ≤ max_tick
  pub value : Fits r.value

abbrev pub RunsIn : {V : Type 0} → (V → Type 0) → List (Run V) → Type 0
RunsIn Fits rs = AllByRecursion (IsRunIn Fits) rs

-- of an ask no more than its tick is limited
abbrev pub IsMoment : Moment → Type 0
IsMoment m = Unit {0}

-- few subscribers are late, and their numbers have 16 bits
pub record LateIn (net : Net) : Type 0 where
  pub few : length net.late ≤ MAX_JOINS
  pub numbers : (s : ℕ) → is_late net s ≡ true → s < 2 ^ 16

-- what a broker keeps for a publisher
pub record ViewIn (v : View) : Type 0 where
  pub know : RunsIn IsKnown v.know
  pub wants : AllByRecursion (RunsIn IsWanted) v.wants
  pub asks : RunsIn IsMoment v.asks
  pub horizon : v.horizon ≤ max_tick
  pub joins : length v.joins ≤ MAX_JOINS

-- a publisher's log, where these subscribers may join: there is room for each that has not
pub record LogIn (late : List ℕ) (log : Log) : Type 0 where
  pub settled : log.settled ≤ max_tick
  pub cut : log.cut ≤ max_tick
  pub events : AllByRecursion (λ x. (x.0 ≤ max_tick) × IsEvent x.1) log.events
  pub held : AreHeld late log.joins log.settled

-- the clock, and all that is kept and sent, where these subscribers may join
pub record WorldIn (late : List ℕ) (w : World) : Type 0 where
  pub clock : w.clock ≤ max_tick
  pub views : AllByRecursion (AllByRecursion ViewIn) w.views
  pub logs : AllByRecursion (LogIn late) w.logs
  pub frames : AllByRecursion IsSpelled w.frames
