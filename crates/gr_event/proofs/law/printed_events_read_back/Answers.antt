use Rattle.gr_event.proofs.Writing.{reads_back}
use Rattle.gr_event.proofs.law.printed_events_read_back.Goals as goal

pub returns : goal.returns
returns c = reads_back
