use Rattle.gr_publog.proofs.Told.{spells_told}
use Rattle.gr_publog.proofs.law.spells_what_is_read.Goals as goal

pub returns : goal.returns
returns c = spells_told
