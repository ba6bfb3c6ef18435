-- Both syncs, and the rest
use Rattle.gr_publog.proofs.Choosing.{opens_failed, opens_of}
use Rattle.gr_publog.proofs.Leaving.{opening_failed, opening_then}
use Rattle.gr_publog.proofs.log.Log.open.Goals as goal

pub returns-in-Err-clause-opens : goal.returns-in-Err-clause-opens
returns-in-Err-clause-opens g c = λ t. opens_failed c.args.late.now c.args.lane _ _ c.in-Err.fault (c.in-Err.ensures.surveys t) c.in-Err.ensures.gave_up

pub returns-in-Err-clause-disk : goal.returns-in-Err-clause-disk
returns-in-Err-clause-disk g c = opening_failed {T = Unit {0}} c.in-Err.fault c.in-Err.ensures.gave_up c.in-Err.ensures.uses

pub returns-clause-opens : goal.returns-clause-opens
returns-clause-opens g c = λ t. opens_of c.args.late.now c.args.lane _ _ _ _ c.open_synced.result (c.in-Ok.ensures.surveys t) (c.open_synced.ensures.settles t)

pub returns-clause-disk : goal.returns-clause-disk
returns-clause-disk g c = opening_then _ c.open_synced.result c.open_synced.ensures.never_reopen c.in-Ok.ensures.uses c.open_synced.ensures.uses
