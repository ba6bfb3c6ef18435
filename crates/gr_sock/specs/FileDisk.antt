-- What is inside of a disk of files.
use Rattle.std.specs.Prelude.{ℕ, Bool, false, get_or, nat_lt, length, Option}
use Rattle.gr_sock.specs.declared.folder.Folder.{Ghosts}
use Rattle.gr_sock.specs.declared.file_disk.FileDisk.{FileDisk}
use Rattle.gr_sock.specs.declared.trouble.LaneError.{LaneError}

-- the folder that the files are in
abbrev pub folder_of : {D : Type 0} {g : Ghosts D} → FileDisk D g → D
folder_of d = d.folder

-- the disk has a place for a lane, so that a call on it takes no memory for one
abbrev pub has_place : {D : Type 0} {g : Ghosts D} → FileDisk D g → ℕ → Bool
has_place d lane = nat_lt lane (length d.ready.items)

-- the file of a lane is open, and it and its name have reached the device since
abbrev pub is_ready : {D : Type 0} {g : Ghosts D} → FileDisk D g → ℕ → Bool
is_ready d lane = get_or d.ready.items lane false

-- how many calls failed
abbrev pub disk_faults : {D : Type 0} {g : Ghosts D} → FileDisk D g → ℕ
disk_faults d = d.faults

-- what the system said at the last failure
abbrev pub disk_said : {D : Type 0} {g : Ghosts D} → FileDisk D g → Option LaneError
disk_said d = d.said
