-- Where memory is refused no call was made
use Rattle.std.proofs.Common.{refl}
use Rattle.gr_publog.proofs.Passing.{appends_unmade}
use Rattle.gr_broker.proofs.hosting.log_event.Goals as goal

pub returns-in-Err-clause-lane : goal.returns-in-Err-clause-lane
returns-in-Err-clause-lane g c = λ t. appends_unmade c.stands_read.ensures c.args.log.now _ _ (c.requires.stands t) refl _
