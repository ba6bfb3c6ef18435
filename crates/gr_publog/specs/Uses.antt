-- What the calls within a log leave of its disk, whatever they are for and whatever comes of them
use Rattle.std.specs.Prelude.{◌≡◌, ◌≢◌, ◌⊎◌, ℕ, ◌≤◌, false, true, List, Result, IsErr, IsErrOf, OnOk}
use Rattle.gr_out.specs.declared.disk.Stop.TheVariants.{Unset}
use Rattle.gr_out.specs.Faults.{Rose}
use Rattle.gr_out.specs.Lane.{Lane, content, has_stopped, LeavesOnly}
use Rattle.gr_out.specs.Stops.{StaysFaultless}
use Rattle.gr_publog.specs.declared.record.LogFault.{LogFault}
use Rattle.gr_publog.specs.declared.record.LogFault.TheVariants as fault
use Rattle.gr_publog.specs.declared.read.Held.{Held}
use Rattle.gr_publog.specs.State.{held_by, IsState}
use Rattle.gr_publog.specs.Crash.{EitherRose}
use Rattle.gr_publog.specs.Steps.{GoesOn}
use Rattle.gr_publog.specs.Views.{LogView, Lanes, lanes_at, AwayFrom}
use Rattle.gr_publog.specs.Opens.{AreSole, EitherStopped, Settles}
use Rattle.gr_publog.specs.Calls.{Tally, Causes}

-- On a disk that tells what it holds, a crash leaves of a lane what it reads, and nothing else

abbrev pub IsSoleOn : Type 0 → Lane → Type 0
IsSoleOn tells l = tells → LeavesOnly l (content l)

abbrev pub AreSoleOn : Type 0 → Lanes → Type 0
AreSoleOn tells ls = tells → AreSole ls

-- so once a call came through
abbrev pub LeavesSole : {T E : Type 0} → Type 0 → Lane → Result T E → Type 0
LeavesSole tells l result = tells → OnOk result (LeavesOnly l (content l))

-- What calls keep of a lane: what was called before, whether room was ever made, and that no stop is ordered.
pub record KeepsCalls (before after : Lane) : Type 0 where
  pub goes_on : GoesOn before after
  pub reserved : after.reserved ≡ before.reserved
  pub unset : before.stop ≡ Unset → after.stop ≡ Unset

abbrev pub KeepsOn : Type 0 → Lane → Lane → Type 0
KeepsOn tells before after = tells → KeepsCalls before after

-- What writes and syncs of one lane leave of a disk.
pub record CallsLane {S T E : Type 0} (tells : Type 0) (faultless : S → Type 0) (lane_of : S → ℕ → Lane)
    (faults stops : S → ℕ) (lane : ℕ) (old new : S) (result : Result T E) : Type 0 where
  -- its counts never fall, and one of them has risen where a call failed
  pub faults_never_fall : faults old ≤ faults new
  pub stops_never_fall : stops old ≤ stops new
  pub same_faults : OnOk result (faults new ≡ faults old)
  pub same_stops : OnOk result (stops new ≡ stops old)
  pub rose : IsErr result → EitherRose (faults old) (faults new) (stops old) (stops new)
  -- a call failed for a stop of the lane, or because the count of failures rose; a faultless disk stays one
  pub why : tells → IsErr result → (has_stopped (lane_of new lane).stop ≡ true) ⊎ Rose (faults old) (faults new)
  pub by_stop : tells → faultless old → IsErr result → has_stopped (lane_of new lane).stop ≡ true
  pub faultless_stays : StaysFaultless (faultless old) (faultless new) (faults old) (faults new)
  -- no other lane is touched
  pub others : tells → (n : ℕ) → n ≢ lane → lane_of new n ≡ lane_of old n

-- What a call leaves of a disk of which it changes one lane.
pub record ChangesLane {S T : Type 0} (tells : Type 0) (faultless : S → Type 0) (lane_of : S → ℕ → Lane)
    (faults stops : S → ℕ) (lane : ℕ) (old new : S) (result : Result T LogFault) : Type 0 where
  -- its counts move as the answer says, and a faultless disk stays one
  pub tally : Tally (faults old) (stops old) (faults new) (stops new) result
  pub faultless_stays : StaysFaultless (faultless old) (faultless new) (faults old) (faults new)
  -- it failed for a stop of the lane, or because the count of failures rose
  pub causes : tells → Causes (faultless old) (has_stopped (lane_of new lane).stop) (faults old) (faults new) result
  -- no other lane is touched
  pub others : tells → (n : ℕ) → n ≢ lane → lane_of new n ≡ lane_of old n

-- What a call leaves of a disk of which it reads one lane.
pub record ReadsLane {S T : Type 0} (tells : Type 0) (faultless : S → Type 0) (lane_of : S → ℕ → Lane)
    (faults stops : S → ℕ) (lane : ℕ) (old new : S) (result : Result T LogFault) : Type 0 where
  pub tally : Tally (faults old) (stops old) (faults new) (stops new) result
  pub faultless_stays : StaysFaultless (faultless old) (faultless new) (faults old) (faults new)
  pub causes : tells → Causes (faultless old) (has_stopped (lane_of new lane).stop) (faults old) (faults new) result
  -- no lane is touched
  pub lanes : tells → (n : ℕ) → lane_of new n ≡ lane_of old n

-- What a call leaves of a disk of which it uses the two lanes of a log, the first of which has this number.
pub record UsesLanes {S T : Type 0} (tells : Type 0) (faultless : S → Type 0) (lane_of : S → ℕ → Lane)
    (faults stops : S → ℕ) (lane : ℕ) (old new : S) (result : Result T LogFault) : Type 0 where
  pub tally : Tally (faults old) (stops old) (faults new) (stops new) result
  pub faultless_stays : StaysFaultless (faultless old) (faultless new) (faults old) (faults new)
  -- it failed for a stop of one of the two, or because the count of failures rose
  pub why : tells → IsErrOf result fault.Disk
      → EitherStopped (lanes_at (lane_of new) lane) ⊎ Rose (faults old) (faults new)
  pub by_stop : tells → faultless old → IsErrOf result fault.Disk → EitherStopped (lanes_at (lane_of new) lane)
  -- no other lane is touched
  pub others : tells → (n : ℕ) → AwayFrom lane n → lane_of new n ≡ lane_of old n

-- What an opening is given and what it leaves, behind the syncs

abbrev pub SettlesOn : {S : Type 0} → Type 0 → (S → ℕ → Lane) → List ℕ → ℕ → S → S → Result LogView LogFault
    → Type 0
SettlesOn tells lane_of late lane old new result =
    tells → Settles late lane (lanes_at (lane_of old) lane) (lanes_at (lane_of new) lane) result

-- a log of the two lanes from this one on, in which these subscribers may join, and which can go on
pub record IsOpened (lane : ℕ) (late : List ℕ) (l : LogView) : Type 0 where
  pub whole : l.broken ≡ false
  pub lane_is : l.lane ≡ lane
  pub joiners : l.state.late ≡ late

-- what a lane holds in which these subscribers may join
pub record IsHeldFor (late : List ℕ) (h : Held) : Type 0 where
  pub state : IsState (held_by h.footing h.events)
  pub joiners : h.footing.late ≡ late
