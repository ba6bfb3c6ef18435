-- What is left of the lanes is what logging the mark left
use Rattle.std.proofs.Common.{Some}
use Rattle.gr_publog.specs.declared.record.Record.TheVariants as entry
use Rattle.gr_publog.proofs.Passing.{appends_ok_as, appends_err_as}
use Rattle.gr_broker.proofs.hosting.log_mark.Goals as goal

pub returns-in-Ok-clause-lane : goal.returns-in-Ok-clause-lane
returns-in-Ok-clause-lane g c = λ t. appends_ok_as c.args.log.now _ _ (Some (entry.Mark c.args.tick)) c.in-Ok.field-0 (Some c.args.tick) (c.in-Ok.ensures.lane t)

pub returns-clause-lane : goal.returns-clause-lane
returns-clause-lane g c = λ t. appends_err_as c.args.log.now _ _ (Some (entry.Mark c.args.tick)) c.in-Err.fault (c.in-Err.ensures.lane t)
