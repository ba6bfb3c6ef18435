-- What a crash leaves while a record is appended, and the counts of a disk
use Rattle.std.specs.Prelude.{◌≡◌, ◌⊎◌, ℕ, ◌+◌, ◌*◌, ◌%◌, ◌≤◌, Bool, true, false, ◌&&◌, ◌||◌, nat_eq, nat_lt, nat_le, if◌then◌else◌, List, []}
use Rattle.std.specs.Prelude.{◌∷◌, length, Result, Ok, Err}
use Rattle.gr_out.specs.declared.disk.Stop.TheVariants.{After}
use Rattle.gr_out.specs.Lane.{Lane, has_stopped, over, Torn}
use Rattle.gr_out.specs.Faults.{Rose}
use Rattle.gr_publog.specs.declared.record.LogFault.{LogFault}
use Rattle.gr_publog.specs.declared.record.LogFault.TheVariants as fault

-- bytes with others behind a gate, and the gate open
abbrev pub behind_gate : ℕ → List ℕ → List ℕ → List ℕ
behind_gate gate bytes old = over (gate + 1) bytes old

abbrev pub opened_gate : ℕ → List ℕ → List ℕ
opened_gate gate old = over gate (1 ∷ []) old

-- an image of a lane while bytes are put behind a gate, and then while the gate is opened
abbrev pub IsBetween : ℕ → List ℕ → List ℕ → List ℕ → Type 0
IsBetween gate bytes old image = Torn (gate + 1) (length bytes) old image
    ⊎ Torn gate 1 (behind_gate gate bytes old) image

-- the call with this number was to break, with this pick, and a stop has broken one
pub record Broke (before after : Lane) (call pick : ℕ) : Type 0 where
  pub ordered : before.stop ≡ After call pick
  pub stopped : has_stopped after.stop ≡ true

-- an append that was stopped at a call is kept by the picked image, where its gate stood at this place
abbrev pub is_kept : ℕ → ℕ → ℕ → Bool
is_kept gate call pick = nat_le 3 call && (nat_eq pick 1 || (nat_lt 1 pick && nat_eq ((gate * pick) % 256) 1))

-- the picked image of a lane whose gate was to open and was not synced
abbrev pub picked_gate : ℕ → ℕ → List ℕ → List ℕ
picked_gate pick gate old =
    if nat_eq pick 0 then old
    else (if nat_eq pick 1 then over gate (1 ∷ []) old else over gate ((gate * pick) % 256 ∷ []) old)

-- the image that is picked where the call with this number broke: up to the second call the gate was not touched
pub record StoppedImage (gate : ℕ) (bytes old : List ℕ) (call pick : ℕ) (image : List ℕ) : Type 0 where
  pub early : call ≤ 2 → Torn (gate + 1) (length bytes) old image
  pub late : 3 ≤ call → image ≡ picked_gate pick gate (behind_gate gate bytes old)

-- one of a disk's two counts rose: of failures, or of calls that a stop broke
abbrev pub EitherRose : ℕ → ℕ → ℕ → ℕ → Type 0
EitherRose faults faults' stops stops' = Rose faults faults' ⊎ Rose stops stops'

-- the call gave up for memory or for the disk
abbrev pub GaveUp : {X : Type 0} → Result X LogFault → Type 0
GaveUp (Ok x) = Unit {0}
GaveUp (Err fault.Memory) = Unit {0}
GaveUp (Err fault.Disk) = Unit {0}
GaveUp (Err (fault.Damaged at)) = ⊥
GaveUp (Err fault.Reopen) = ⊥

-- an answer other than that the disk failed
abbrev pub IsNoFailure : LogFault → Type 0
IsNoFailure fault.Memory = Unit {0}
IsNoFailure fault.Disk = ⊥
IsNoFailure (fault.Damaged at) = Unit {0}
IsNoFailure fault.Reopen = Unit {0}

-- whether it is that
abbrev pub is_disk : LogFault → Bool
is_disk fault.Memory = false
is_disk fault.Disk = true
is_disk (fault.Damaged at) = false
is_disk fault.Reopen = false

abbrev pub NotFailed : {T : Type 0} → Result T LogFault → Type 0
NotFailed (Ok x) = Unit {0}
NotFailed (Err e) = IsNoFailure e
