-- Before the first record, and after each
use Rattle.gr_publog.proofs.Kept.{begins, kept}
use Rattle.gr_publog.proofs.law.stays_a_state.Goals as goal

pub returns-clause-begins : goal.returns-clause-begins
returns-clause-begins c = begins

pub returns-clause-stays : goal.returns-clause-stays
returns-clause-stays c = kept
