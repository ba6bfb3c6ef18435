-- What a call on a log does: to its two lanes, to the counts of its disk, and to what is kept in memory
use Rattle.std.specs.Prelude.{◌≡◌, ◌≢◌, ◌⊎◌, ◌↔◌, ℕ, suc, ◌-◌, ◌≤◌, Bool, true, false, not, if◌then◌else◌, List, ◌∷◌, []}
use Rattle.std.specs.Prelude.{◌++◌, Option, Some, None, Result, Ok, Err, IsErr, IsErrOf, IsSome, OnOk}
use Rattle.gr_out.specs.declared.disk.Stop.TheVariants.{Unset, After}
use Rattle.gr_out.specs.Faults.{Rose}
use Rattle.gr_out.specs.Lane.{Call, Lane, moment, crash_image, MayLeave, LeftSince}
use Rattle.gr_out.specs.Stops.{StaysFaultless}
use Rattle.gr_publog.specs.declared.record.Record.{Record}
use Rattle.gr_publog.specs.declared.record.Record.TheVariants.{Cut}
use Rattle.gr_publog.specs.declared.record.LogFault.{LogFault}
use Rattle.gr_publog.specs.declared.record.LogFault.TheVariants as fault
use Rattle.gr_publog.specs.declared.head.Standing.TheVariants.{New}
use Rattle.gr_publog.specs.State.{LogState, after_record}
use Rattle.gr_publog.specs.Text.{record_bytes, standing_of}
use Rattle.gr_publog.specs.Filled.{body_of}
use Rattle.gr_publog.specs.Crash.{EitherRose, Broke, is_kept, NotFailed}
use Rattle.gr_publog.specs.Steps.{append_calls, rewriting_calls, GoesOn}
use Rattle.gr_publog.specs.Views.{LogView, Lanes, appended, reclaimed, present, other, AwayFrom, LeftPair, ReadsAs, FoundAs, Stands}

-- A record that is logged, or none

abbrev pub appended_if : Option Record → LogView → LogView
appended_if None l = l
appended_if (Some r) l = appended r l

abbrev pub state_if : Option Record → LogState → LogState
state_if None s = s
state_if (Some r) s = after_record s r

-- what is left where a stop broke a call that logs one: without it or with it, as the log keeps it
abbrev pub log_left : LogView → Option Record → ℕ → ℕ → LogView
log_left l None call pick = l
log_left l (Some r) call pick = if is_kept (l.size - 1) call pick then appended r l else l

-- the calls that log a record behind the gate at a place, or none
abbrev pub logging_calls : ℕ → Option Record → List Call → List Call
logging_calls gate None calls = calls
logging_calls gate (Some r) calls = append_calls gate (record_bytes r ++ 0 ∷ []) calls

-- an image of the present lane, which is the second one or not, and one of the other stand for this log
abbrev pub FoundInTurn : Bool → LogView → List ℕ → List ℕ → Type 0
FoundInTurn second l image beside = FoundAs l (if second then beside else image) (if second then image else beside)

-- What a call that logs a record, or none, does to the lanes of a log.
pub record Appends {T : Type 0} (l : LogView) (logged : Option Record) (before after : Lanes)
    (result : Result T LogFault) : Type 0 where
  -- after `Ok` a crash leaves what the log then holds, and no call was made but those of the format
  pub stands : l.broken ≡ false → OnOk result (Stands after (appended_if logged l))
  pub calls : OnOk result ((present l after).calls ≡ logging_calls (l.size - 1) logged (present l before).calls)
  -- the other lane is not called
  pub aside : other l after ≡ other l before
  pub on : GoesOn (present l before) (present l after)
  -- at every moment of the call a crash leaves what was held before, or that with the record
  pub any_moment : l.broken ≡ false → (a b : List ℕ) → LeftPair before after a b
      → ReadsAs l.state a b ⊎ ReadsAs (state_if logged l.state) a b
  -- and the present lane keeps its head
  pub head : l.broken ≡ false → (image : List ℕ) → LeftSince (present l after) (moment (present l before)) image
      → standing_of (not l.second) image ≡ Ok (New l.generation)
  -- an ordered stop at one of its calls lets no `Ok` through, and the call and the pick tell which of the two is left
  pub breaks : IsSome logged → (call pick : ℕ) → (present l before).stop ≡ After call pick → call ≤ 4 → IsErr result
  pub kept : l.broken ≡ false → (call pick : ℕ) → Broke (present l before) (present l after) call pick
      → (beside : List ℕ) → MayLeave (other l before) beside
      → FoundInTurn l.second (log_left l logged call pick) (crash_image (present l after)) beside
  -- want of memory comes before the first call, and the disk fails at one of the four
  pub untouched : IsErrOf result fault.Memory → after ≡ before
  pub few : IsErrOf result fault.Disk → 12 ≤ (present l after).left
  pub reserved : (present l before).reserved ≡ true → (present l after).reserved ≡ true
  pub unset : (present l before).stop ≡ Unset → (present l after).stop ≡ Unset

-- What a reclaiming does to them.
pub record Reclaims {T : Type 0} (l : LogView) (tick : ℕ) (before after : Lanes) (result : Result T LogFault)
    : Type 0 where
  pub stands : l.broken ≡ false → OnOk result (Stands after (reclaimed tick l))
  pub calls : OnOk result ((other l after).calls
      ≡ rewriting_calls l.aside (body_of (after_record l.state (Cut tick)) (suc l.generation)) (other l before).calls)
  -- the present lane is not called
  pub kept : present l after ≡ present l before
  pub on : GoesOn (other l before) (other l after)
  -- at every moment of the call a crash leaves what was held before, or that with the cut
  pub any_moment : l.broken ≡ false → (a b : List ℕ) → LeftPair before after a b
      → ReadsAs l.state a b ⊎ ReadsAs (after_record l.state (Cut tick)) a b
  -- want of memory comes before the first call, and the disk fails at one of the eight
  pub untouched : IsErrOf result fault.Memory → after ≡ before
  pub few : IsErrOf result fault.Disk → 8 ≤ (other l after).left
  pub reserved : (other l before).reserved ≡ true → (other l after).reserved ≡ true
  pub unset : (other l before).stop ≡ Unset → (other l after).stop ≡ Unset

-- How the two counts of a disk move in a call: of failures, and of calls that a stop broke. None ever falls, one has
-- risen where the answer is that the disk failed, and neither has moved where it is anything else.
pub record Tally {T : Type 0} (faults stops faults' stops' : ℕ) (result : Result T LogFault) : Type 0 where
  pub faults_never_fall : faults ≤ faults'
  pub stops_never_fall : stops ≤ stops'
  pub rose : IsErrOf result fault.Disk → EitherRose faults faults' stops stops'
  pub same : NotFailed result → (faults' ≡ faults) × (stops' ≡ stops)

-- Why a call answers that the disk failed: a lane was stopped, or the count of failures rose. No call of a faultless
-- disk fails but by a stop.
pub record Causes {T : Type 0} (faultless : Type 0) (stopped : Bool) (faults faults' : ℕ)
    (result : Result T LogFault) : Type 0 where
  pub why : IsErrOf result fault.Disk → (stopped ≡ true) ⊎ Rose faults faults'
  pub by_stop : faultless → IsErrOf result fault.Disk → stopped ≡ true

-- What a call leaves of its disk: `lane` is the number of the first of the log's two lanes, and `stopped` says whether
-- one that the call is to use was stopped.
pub record LeavesDisk {S T : Type 0} (tells : Type 0) (faultless : S → Type 0) (lane_of : S → ℕ → Lane)
    (faults stops : S → ℕ) (lane : ℕ) (stopped : Bool) (old new : S) (result : Result T LogFault) : Type 0 where
  -- its counts move as the answer says, and a faultless disk stays one
  pub tally : Tally (faults old) (stops old) (faults new) (stops new) result
  pub faultless_stays : StaysFaultless (faultless old) (faultless new) (faults old) (faults new)
  -- it failed for a stop of such a lane, or because the count of failures rose
  pub causes : tells → Causes (faultless old) stopped (faults old) (faults new) result
  -- where the log has to be opened again, the disk is not called
  pub idle : IsErrOf result fault.Reopen → new ≡ old
  -- no lane of another log is touched
  pub others : tells → (n : ℕ) → AwayFrom lane n → lane_of new n ≡ lane_of old n

-- the log has to be opened again exactly where it was broken
abbrev pub ReopensBroken : {T : Type 0} → LogView → Result T LogFault → Type 0
ReopensBroken l result = IsErrOf result fault.Reopen ↔ (l.broken ≡ true)

-- What a call leaves in memory, by its answer: what it has logged, what there was before, or what is broken and has to
-- be opened again. It never answers that the lanes are damaged.
pub record Leaves {V T : Type 0} (before logged broken after : V) (result : Result T LogFault) : Type 0 where
  pub ok : OnOk result (after ≡ logged)
  pub memory : IsErrOf result fault.Memory → after ≡ before
  pub closed : IsErrOf result fault.Reopen → after ≡ before
  pub failed : IsErrOf result fault.Disk → after ≡ broken
  pub never_damaged : (at : ℕ) → result ≢ Err (fault.Damaged at)
