use Rattle.gr_frame.proofs.Spelled.{one_frame}
use Rattle.gr_frame.proofs.laws.bytes_spell_one_frame.Goals as goal

pub returns-clause-frame : goal.returns-clause-frame
returns-clause-frame c = one_frame
