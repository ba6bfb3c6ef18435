-- What notes may say
use Rattle.std.specs.Prelude.{◌+◌, ◌^◌, ◌<◌, ◌≤◌}
use Rattle.gr_event.specs.Limits.{IsEvent}
use Rattle.gr_note.specs.declared.TheConstants.{MAX_NUMBER}
use Rattle.gr_note.specs.declared.note.Note.{Note}
use Rattle.gr_note.specs.declared.note.Note.TheVariants.{Submit, Next, Spent}

-- the number of an event is in 1 to 2^62, and the one that is waited for may be one more
abbrev pub IsInRange : Note → Type 0
IsInRange (Submit publisher number event) = (1 ≤ number) × (number ≤ MAX_NUMBER)
IsInRange (Next publisher next) = (1 ≤ next) × (next ≤ MAX_NUMBER + 1)
IsInRange (Spent publisher) = Unit {0}

-- publishers have numbers of 16 bits, and an event is within the limits of events
abbrev pub HasParts : Note → Type 0
HasParts (Submit publisher number event) = (publisher < 2 ^ 16) × IsEvent event
HasParts (Next publisher next) = publisher < 2 ^ 16
HasParts (Spent publisher) = publisher < 2 ^ 16

-- a note that has a spelling
pub record IsNote (n : Note) : Type 0 where
  pub range : IsInRange n
  pub parts : HasParts n
