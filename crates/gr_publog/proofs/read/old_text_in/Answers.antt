-- Before the first record
use Rattle.gr_publog.proofs.Kept.{begins}
use Rattle.gr_publog.proofs.read.old_text_in.Goals as goal

pub records_in-requires-clause-state : goal.records_in-requires-clause-state
records_in-requires-clause-state c = rw c.in_ok-footing.ensures (begins c.args.late.now c.requires.late)
