use Rattle.gr_note.proofs.Spelled.{length-note_bytes}
use Rattle.gr_note.proofs.laws.constants_of_notes.Goals as goal

pub returns-clause-sizes : goal.returns-clause-sizes
returns-clause-sizes c = length-note_bytes
