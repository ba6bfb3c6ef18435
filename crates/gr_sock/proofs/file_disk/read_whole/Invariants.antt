use Rattle.std.proofs.Common.{◌≡◌, ℕ, ◌-◌, ◌≤◌, length, take, drop}
use Rattle.gr_sock.proofs.file_disk.read_whole.Given as goal

abbrev pub invariant-pieces : goal.invariant-pieces
invariant-pieces g l = record {
  within : l.done ≤ length l.into;
  len : length l.into ≡ length l.fn.into;
  bytes : g.D.Folder.tells → take l.done l.into ≡ take l.done (drop l.at (g.D.Folder.file_of l.fn.folder l.lane).bytes);
  same : g.D.Folder.tells → (n : ℕ) → g.D.Folder.file_of l.folder n ≡ g.D.Folder.file_of l.fn.folder n;
}

abbrev pub decreases-pieces : goal.decreases-pieces
decreases-pieces g l = length l.into - l.done
