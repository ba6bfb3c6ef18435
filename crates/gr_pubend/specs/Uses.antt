-- What the calls of an endpoint want of its disk and leave of it, whatever they log and whatever comes of them
use Rattle.std.specs.Prelude.{◌≡◌, ℕ, Result, OnOk}
use Rattle.gr_out.specs.Lane.{Lane, has_stopped}
use Rattle.gr_publog.specs.declared.record.LogFault.{LogFault}
use Rattle.gr_publog.specs.Views.{LogView, lanes_at, IsReady}
use Rattle.gr_publog.specs.Calls.{LeavesDisk}
use Rattle.gr_pubend.specs.End.{EndView}

-- On a disk that tells what it holds, a log that is not broken stands in its lanes
abbrev pub IsReadyOn : {S : Type 0} → Type 0 → (S → ℕ → Lane) → LogView → S → Type 0
IsReadyOn tells lane_of l disk = tells → IsReady l (lanes_at (lane_of disk) l.lane)

-- What a call leaves of an endpoint and of its disk, of which it calls the lane of this number.
pub record UsesEnd {S T : Type 0} (tells : Type 0) (faultless : S → Type 0) (lane_of : S → ℕ → Lane)
    (faults stops : S → ℕ) (lane : ℕ) (before after : EndView) (old new : S) (result : Result T LogFault) : Type 0 where
  -- where the answer is not a fault, the log stays in its lanes, and is broken if it was
  pub goes_on : OnOk result ((after.log.lane ≡ before.log.lane) × (after.log.broken ≡ before.log.broken))
  -- the disk is left as by every call on a log
  pub disk : LeavesDisk tells faultless lane_of faults stops before.log.lane (has_stopped (lane_of new lane).stop) old
      new result
