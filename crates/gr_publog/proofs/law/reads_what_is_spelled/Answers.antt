use Rattle.gr_publog.proofs.Reading.{reads_spelled}
use Rattle.gr_publog.proofs.law.reads_what_is_spelled.Goals as goal

pub returns : goal.returns
returns c = reads_spelled
