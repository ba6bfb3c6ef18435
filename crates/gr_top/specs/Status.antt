-- What a status says of the faults that were counted
use Rattle.std.specs.Prelude.{◌≡◌, ◌≢◌, ◌⊎◌, ℕ}
use Rattle.gr_out.specs.Faults.{Rose}
use Rattle.gr_publog.specs.Crash.{EitherRose}
use Rattle.gr_top.specs.Top.{IsWhole, IsCut}

-- 3 comes by a fault of the source, and no other status by one.
pub record SourceStatus (status faults faults' : ℕ) : Type 0 where
  pub failed : status ≡ 3 → Rose faults faults'
  pub same : status ≢ 3 → faults' ≡ faults

-- 4 comes by a fault of the sink, and no other status by one.
pub record SinkStatus (status faults faults' : ℕ) : Type 0 where
  pub failed : status ≡ 4 → Rose faults faults'
  pub same : status ≢ 4 → faults' ≡ faults

-- 5 comes by a fault of the disk, or by a stop that was ordered, and no other status by one, but for 4 and 7: where what
-- was reported before could not be written, they come in the place of 5.
pub record DiskStatus (status faults stops faults' stops' : ℕ) : Type 0 where
  pub failed : status ≡ 5 → EitherRose faults faults' stops stops'
  pub same : status ≢ 4 → status ≢ 5 → status ≢ 7 → (faults' ≡ faults) × (stops' ≡ stops)

-- 8 comes by a fault of the post, and no other status by one.
pub record PostStatus (status faults faults' : ℕ) : Type 0 where
  pub failed : status ≡ 8 → Rose faults faults'
  pub same : status ≢ 8 → faults' ≡ faults

-- all of an answer was printed, or of a task that was carried out; or it was cut short
abbrev pub WholeOrCut : ℕ → Type 0
WholeOrCut status = IsWhole status ⊎ IsCut status

abbrev pub DoneOrCut : ℕ → Type 0
DoneOrCut status = (status ≡ 0) ⊎ IsCut status
