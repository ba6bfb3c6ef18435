-- A lane of a disk: the calls on it, what it reads, and what a crash may leave of it
use Rattle.std.specs.Prelude.{◌≡◌, ◌⊎◌, ℕ, ◌+◌, ◌-◌, ◌*◌, ◌%◌, ◌≤◌, min, max, Bool, true, false, nat_le, nat_eq}
use Rattle.std.specs.Prelude.{if◌then◌else◌, List, [], ◌∷◌, ◌++◌, length, take, drop, replicate, get_or}
use Rattle.gr_out.specs.declared.disk.Stop.{Stop}
use Rattle.gr_out.specs.declared.disk.Stop.TheVariants.{Unset, After, Stopped}
use Rattle.gr_out.specs.declared.disk.Fate.{Fate}
use Rattle.gr_out.specs.declared.disk.Fate.TheVariants.{Done, Failed, Broken, Lost}

-- A call on a lane that may change what a crash leaves. A write and a cut that failed leave the lane as it reads.
pub data Call : Type 0 where
  Write : ℕ → List ℕ → Call  -- these bytes at this place
  Cut : ℕ → Call  -- to this length
  Sync : Call
  FailedWrite : ℕ → ℕ → Call  -- so many bytes at this place
  FailedCut : ℕ → Call

-- What is known of a lane.
pub record Lane : Type 0 where
  -- what it read at first, all of it synced
  pub start : List ℕ
  -- the calls since then, the latest first
  pub calls : List Call
  -- up to which place bytes may be written, and how many more writes, cuts and syncs may come
  pub room : ℕ
  pub left : ℕ
  -- room was made for it, or bytes were put there
  pub reserved : Bool
  -- the stop that was ordered
  pub stop : Stop

-- What a lane reads

-- a list with others over it from a place on
abbrev pub over : {A : Type 0} → ℕ → List A → List A → List A
over at new old = take at old ++ (new ++ drop (at + length new) old)

abbrev pub read_after : List ℕ → List Call → List ℕ
read_after start [] = start
read_after start (Write at bytes ∷ calls) = over at bytes (read_after start calls)
read_after start (Cut n ∷ calls) = take n (read_after start calls)
read_after start (Sync ∷ calls) = read_after start calls
read_after start (FailedWrite at n ∷ calls) = read_after start calls
read_after start (FailedCut n ∷ calls) = read_after start calls

-- the bytes that a read gives
abbrev pub content : Lane → List ℕ
content l = read_after l.start l.calls

-- What a crash may leave

-- after a write of n bytes: any bytes in its range and past the old end, the same elsewhere, and some size between
pub record Torn (at n : ℕ) (old new : List ℕ) : Type 0 where
  pub before : take (min at (length old)) new ≡ take at old
  pub after : drop (at + n) new ≡ drop (at + n) old
  pub no_shorter : length old ≤ length new
  pub no_longer : length new ≤ max (length old) (at + n)

-- after a cut: some size between
pub record Shortened (n : ℕ) (old new : List ℕ) : Type 0 where
  pub no_shorter : min n (length old) ≤ length new
  pub front : take (length new) old ≡ new

-- a crash after these calls may leave these bytes. A sync leaves what a read gives, and nothing else
abbrev pub LeftAfter : List ℕ → List Call → List ℕ → Type 0
LeftAfter start [] image = image ≡ start
LeftAfter start (Write at bytes ∷ calls) image = (old : List ℕ) × LeftAfter start calls old
    × Torn at (length bytes) old image
LeftAfter start (Cut n ∷ calls) image = (old : List ℕ) × LeftAfter start calls old × Shortened n old image
LeftAfter start (Sync ∷ calls) image = image ≡ read_after start calls
LeftAfter start (FailedWrite at n ∷ calls) image = (old : List ℕ) × LeftAfter start calls old × Torn at n old image
LeftAfter start (FailedCut n ∷ calls) image = (old : List ℕ) × LeftAfter start calls old × Shortened n old image

-- a crash now may leave these bytes
abbrev pub MayLeave : Lane → List ℕ → Type 0
MayLeave l image = LeftAfter l.start l.calls image

-- a moment of a lane: how many of its calls were made
abbrev pub moment : Lane → ℕ
moment l = length l.calls

-- a crash at some moment from the one with n calls on may have left these bytes
abbrev pub LeftFrom : List ℕ → List Call → ℕ → List ℕ → Type 0
LeftFrom start [] n image = LeftAfter start [] image
LeftFrom start (call ∷ calls) n image = LeftAfter start (call ∷ calls) image
    ⊎ ((n ≤ length calls) × LeftFrom start calls n image)

abbrev pub LeftSince : Lane → ℕ → List ℕ → Type 0
LeftSince l since image = LeftFrom l.start l.calls since image

-- a crash leaves these bytes and no others
abbrev pub LeavesOnly : Lane → List ℕ → Type 0
LeavesOnly l bytes = (image : List ℕ) → MayLeave l image → image ≡ bytes

-- What a stop does

-- the next write, cut or sync does not come through
abbrev pub is_due : Stop → Bool
is_due Unset = false
is_due (After n pick) = nat_le n 1
is_due (Stopped pick) = true

-- the stop has broken a call
abbrev pub has_stopped : Stop → Bool
has_stopped (Stopped pick) = true
has_stopped _ = false

-- the stop after one more call
abbrev pub one_later : Stop → Stop
one_later Unset = Unset
one_later (After n pick) = if nat_le n 1 then Stopped pick else After (n - 1) pick
one_later (Stopped pick) = Stopped pick

-- what becomes of the next call, given whether it fails by itself
abbrev pub fate_of : Bool → Stop → Fate
fate_of fails Unset = if fails then Failed else Done
fate_of fails (After n pick) = if nat_le n 1 then Broken else (if fails then Failed else Done)
fate_of fails (Stopped pick) = Lost

-- the calls with one that failed
abbrev pub with_failed : Call → List Call → List Call
with_failed (Write at bytes) calls = FailedWrite at (length bytes) ∷ calls
with_failed (Cut n) calls = FailedCut n ∷ calls
with_failed _ calls = calls

-- the calls with one that the stop broke: a write and a cut count as made, a sync had no effect
abbrev pub with_broken : Call → List Call → List Call
with_broken Sync calls = calls
with_broken call calls = call ∷ calls

abbrev pub with_call : Fate → Call → List Call → List Call
with_call Done call calls = call ∷ calls
with_call Failed call calls = with_failed call calls
with_call Broken call calls = with_broken call calls
with_call Lost call calls = calls

-- a lane after a call, given whether it failed
abbrev pub after_call : Call → Bool → Lane → Lane
after_call call fails l = record {
  start = l.start;
  calls = with_call (fate_of fails l.stop) call l.calls;
  room = l.room;
  left = l.left - 1;
  reserved = l.reserved;
  stop = one_later l.stop;
}

-- a lane with room up to a place, for 16 calls
abbrev pub with_room : ℕ → Lane → Lane
with_room size l = record {
  start = l.start;
  calls = l.calls;
  room = max size l.room;
  left = 16;
  reserved = true;
  stop = l.stop;
}

-- a lane with another stop
abbrev pub with_stop : Stop → Lane → Lane
with_stop stop l = record {
  start = l.start;
  calls = l.calls;
  room = l.room;
  left = l.left;
  reserved = l.reserved;
  stop = stop;
}

-- the call with number n from now on is to break; none for 0
abbrev pub stop_at : ℕ → ℕ → Stop
stop_at n pick = if nat_eq n 0 then Unset else After n pick

-- Crashes

-- what the lane read at its last sync
abbrev pub synced_after : List ℕ → List Call → List ℕ
synced_after start [] = start
synced_after start (Sync ∷ calls) = read_after start calls
synced_after start (Write at bytes ∷ calls) = synced_after start calls
synced_after start (Cut n ∷ calls) = synced_after start calls
synced_after start (FailedWrite at n ∷ calls) = synced_after start calls
synced_after start (FailedCut n ∷ calls) = synced_after start calls

-- of each byte, whether it was written since the last sync
abbrev pub fresh_after : List ℕ → List Call → List Bool
fresh_after start [] = replicate (length start) false
fresh_after start (Sync ∷ calls) = replicate (length (read_after start calls)) false
fresh_after start (Write at bytes ∷ calls) = over at (replicate (length bytes) true) (fresh_after start calls)
fresh_after start (Cut n ∷ calls) = take n (fresh_after start calls)
fresh_after start (FailedWrite at n ∷ calls) = fresh_after start calls
fresh_after start (FailedCut n ∷ calls) = fresh_after start calls

-- bytes from place i on, each fresh one as its place times the pick
abbrev pub garbled : ℕ → ℕ → List Bool → List ℕ → List ℕ
garbled pick i [] bytes = bytes
garbled pick i (f ∷ fs) [] = []
garbled pick i (f ∷ fs) (b ∷ bytes) = (if f then (i * pick) % 256 else b) ∷ garbled pick (i + 1) fs bytes

-- the picked image: as at the last sync, as it reads, or with the fresh bytes garbled
abbrev pub picked_after : ℕ → List ℕ → List Call → List ℕ
picked_after pick start calls =
    if nat_eq pick 0 then synced_after start calls
    else (if nat_eq pick 1 then read_after start calls
    else garbled pick 0 (fresh_after start calls) (read_after start calls))

-- the image that a crash picks. On a lane that was not stopped it is what the lane reads
abbrev pub crash_image : Lane → List ℕ
crash_image l = elim l.stop [ Stopped pick ↦ picked_after pick l.start l.calls | _ ↦ content l ]

-- a lane after a crash
abbrev pub crashed : Lane → Lane
crashed l = record {
  start = crash_image l;
  calls = [];
  room = l.room;
  left = l.left;
  reserved = l.reserved;
  stop = Unset;
}

-- Lanes by number

-- a lane that was never touched
abbrev pub blank : Lane
blank = record { start = []; calls = []; room = 0; left = 0; reserved = false; stop = Unset }

abbrev pub lane_at : List Lane → ℕ → Lane
lane_at lanes n = get_or lanes n blank

-- lanes that hold these bytes, synced, with no room
abbrev pub lane_of : List ℕ → Lane
lane_of bytes = record { start = bytes; calls = []; room = 0; left = 0; reserved = true; stop = Unset }
