use Rattle.std.proofs.Common.{◌≡◌, ◌≢◌, ℕ, ◌-◌, ◌≤◌, length, take}
use Rattle.gr_out.specs.Lane.{over}
use Rattle.gr_sock.proofs.file_disk.write_whole.Given as goal

abbrev pub invariant-pieces : goal.invariant-pieces
invariant-pieces g l = record {
  within : l.done ≤ length l.bytes;
  written : g.D.Folder.tells → l.at ≤ length (g.D.Folder.file_of l.fn.folder l.lane).bytes
      → (g.D.Folder.file_of l.folder l.lane).bytes ≡ over l.at (take l.done l.bytes) (g.D.Folder.file_of l.fn.folder l.lane).bytes;
  named : g.D.Folder.tells → (g.D.Folder.file_of l.folder l.lane).is_named ≡ (g.D.Folder.file_of l.fn.folder l.lane).is_named;
  others : g.D.Folder.tells → (n : ℕ) → n ≢ l.lane → g.D.Folder.file_of l.folder n ≡ g.D.Folder.file_of l.fn.folder n;
}

abbrev pub decreases-pieces : goal.decreases-pieces
decreases-pieces g l = length l.bytes - l.done
