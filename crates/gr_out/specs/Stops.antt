-- How a disk's two counts move: of failures, and of the calls that an ordered stop broke
use Rattle.std.specs.Prelude.{◌≡◌, ◌≤◌, ℕ, Bool, true, false, Result, IsErr, OnOk}
use Rattle.gr_out.specs.Faults.{Rose}

-- A call that the stop breaks fails and raises the count of stops alone. Any other that fails raises the count of
-- failures alone, and one that does not fail raises neither.
pub record StopCounts {T E : Type 0} (due : Bool) (faults faults' stops stops' : ℕ) (result : Result T E) : Type 0 where
  pub faults_never_fall : faults ≤ faults'
  pub stops_never_fall : stops ≤ stops'
  pub breaks : due ≡ true → IsErr result
  pub broken : due ≡ true → Rose stops stops'
  pub no_fault : due ≡ true → faults' ≡ faults
  pub failed : due ≡ false → IsErr result → Rose faults faults'
  pub unbroken : due ≡ false → stops' ≡ stops
  pub same_faults : OnOk result (faults' ≡ faults)
  pub same_stops : OnOk result (stops' ≡ stops)

-- A disk of which no call is to fail by itself stays such a disk, and its count of failures stays.
pub record StaysFaultless (before after : Type 0) (faults faults' : ℕ) : Type 0 where
  pub stays : before → after
  pub same_faults : before → faults' ≡ faults
