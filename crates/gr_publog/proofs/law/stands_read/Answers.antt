use Rattle.gr_publog.proofs.Presence.{stands_read}
use Rattle.gr_publog.proofs.law.stands_read.Goals as goal

pub returns : goal.returns
returns c = stands_read c.shut_is.ensures c.two_are.ensures c.lower_is.ensures
