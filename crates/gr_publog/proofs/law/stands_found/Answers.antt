use Rattle.gr_publog.proofs.Presence.{stands_found}
use Rattle.gr_publog.proofs.law.stands_found.Goals as goal

pub returns : goal.returns
returns c = stands_found c.shut_is.ensures c.two_are.ensures c.lower_is.ensures
