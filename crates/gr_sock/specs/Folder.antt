-- What is known of the files of a folder, and what the calls on them make of it.
use Rattle.std.specs.Prelude.{◌≡◌, ◌≢◌, ℕ, ◌≤◌, Bool, true, false, List, length, take, get_or}
use Rattle.gr_out.specs.Lane.{over}

-- A file of a lane.
pub record FileView : Type 0 where
  -- what it holds; nothing where there is none
  pub bytes : List ℕ
  -- all that it holds has reached the device
  pub is_kept : Bool
  -- it is there, and its name has reached the device, and that of its folder
  pub is_named : Bool

-- a file that holds other bytes, which need not have reached the device
abbrev pub with_bytes : List ℕ → FileView → FileView
with_bytes bytes f = record f { bytes = bytes; is_kept = false }

-- a file all of which has reached the device
abbrev pub all_kept : FileView → FileView
all_kept f = record f { is_kept = true }

-- A file holds what it held, and what had reached the device is still there.
pub record Remains (old new : FileView) : Type 0 where
  pub bytes : new.bytes ≡ old.bytes
  pub kept : old.is_kept ≡ true → new.is_kept ≡ true
  pub named : old.is_named ≡ true → new.is_named ≡ true

-- all files remain
abbrev pub AllRemain : (ℕ → FileView) → (ℕ → FileView) → Type 0
AllRemain old new = (n : ℕ) → Remains (old n) (new n)

-- all files but that of a lane remain
abbrev pub OthersRemain : ℕ → (ℕ → FileView) → (ℕ → FileView) → Type 0
OthersRemain lane old new = (n : ℕ) → n ≢ lane → Remains (old n) (new n)

-- the files are the same
abbrev pub AllSame : (ℕ → FileView) → (ℕ → FileView) → Type 0
AllSame old new = (n : ℕ) → new n ≡ old n

-- the files but that of a lane are the same
abbrev pub OthersSame : ℕ → (ℕ → FileView) → (ℕ → FileView) → Type 0
OthersSame lane old new = (n : ℕ) → n ≢ lane → new n ≡ old n

-- Each of these lanes has a file whose name has reached the device.
pub record AllNamed (file_of : ℕ → FileView) (ready : List Bool) : Type 0 where
  pub named : (n : ℕ) → get_or ready n false ≡ true → (file_of n).is_named ≡ true

-- A front of some bytes stands over what a file held, from a place on.
pub record HasFront (at : ℕ) (bytes old new : List ℕ) : Type 0 where
  pub count : ℕ
  pub within : count ≤ length bytes
  pub are : new ≡ over at (take count bytes) old
