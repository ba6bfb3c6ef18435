-- The history of a lane, which only proofs read: what it read at first, and the calls since then
use Rattle.std.specs.Prelude.{[], ◌∷◌}
use Rattle.gr_out.specs.Lane.{Write, Cut, Sync, FailedWrite, FailedCut}
use Rattle.gr_out.specs.declared.history.Note.{Note}
use Rattle.gr_out.specs.declared.history.Note.TheVariants as note
use Rattle.gr_out.specs.Past.{Past}

-- the history with one more note
abbrev pub noted : Past → Note → Past
noted p (note.Holds bytes) = record { start = bytes.now; calls = [] }
noted p (note.Wrote at bytes) = record { start = p.start; calls = Write at bytes.now ∷ p.calls }
noted p (note.Cut n) = record { start = p.start; calls = Cut n ∷ p.calls }
noted p note.Synced = record { start = p.start; calls = Sync ∷ p.calls }
noted p (note.FailedWrite at n) = record { start = p.start; calls = FailedWrite at n ∷ p.calls }
noted p (note.FailedCut n) = record { start = p.start; calls = FailedCut n ∷ p.calls }
