use Rattle.gr_note.proofs.Spelled.{no_prefix}
use Rattle.gr_note.proofs.laws.spells_no_prefix.Goals as goal

pub returns : goal.returns
returns c = no_prefix
