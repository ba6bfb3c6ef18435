use Rattle.gr_frame.proofs.Spelled.{no_prefix}
use Rattle.gr_frame.proofs.laws.spells_no_prefix.Goals as goal

pub returns : goal.returns
returns c = no_prefix
