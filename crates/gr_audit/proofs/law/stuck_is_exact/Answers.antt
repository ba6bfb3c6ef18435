use Rattle.gr_audit.proofs.Ahead.{furthest, exact, stays_exact}
use Rattle.gr_audit.proofs.law.stuck_is_exact.Goals as goal

pub returns-clause-furthest : goal.returns-clause-furthest
returns-clause-furthest c = furthest

pub returns-clause-exact : goal.returns-clause-exact
returns-clause-exact c = exact

pub returns-clause-stays : goal.returns-clause-stays
returns-clause-stays c = stays_exact
