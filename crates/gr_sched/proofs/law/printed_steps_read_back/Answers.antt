use Rattle.gr_sched.proofs.ReadsBack.{reads_back}
use Rattle.gr_sched.proofs.law.printed_steps_read_back.Goals as goal

pub returns : goal.returns
returns c = reads_back
