-- One sync, and calls that change nothing
use Rattle.gr_publog.proofs.Surveying.{no_call, one_sync, sync_on}
use Rattle.gr_publog.proofs.Onward.{goes_on_same}
use Rattle.gr_publog.proofs.opening.ready_lane.Goals as goal

pub returns-in-Err-clause-any_moment : goal.returns-in-Err-clause-any_moment
returns-in-Err-clause-any_moment g c = λ t. no_call _ _ (c.in-Err.ensures.err t)

pub returns-in-Ok-sync-clause-any_moment : goal.returns-in-Ok-sync-clause-any_moment
returns-in-Ok-sync-clause-any_moment g c = λ t.
    one_sync (g.D.Disk.lane_of c.args.disk.now c.args.lane) (g.D.Disk.lane_of c.reserve.new.self c.args.lane) (g.D.Disk.lane_of c.sync.new.self c.args.lane) _ _ (c.in-Ok.ensures.room t) (c.sync.ensures.after t)

pub returns-in-Err-sync-clause-any_moment : goal.returns-in-Err-sync-clause-any_moment
returns-in-Err-sync-clause-any_moment g c = λ t.
    one_sync (g.D.Disk.lane_of c.args.disk.now c.args.lane) (g.D.Disk.lane_of c.reserve.new.self c.args.lane) (g.D.Disk.lane_of c.sync.new.self c.args.lane) _ _ (c.in-Ok.ensures.room t) (c.sync.ensures.after t)

pub returns-in-Err-clause-on : goal.returns-in-Err-clause-on
returns-in-Err-clause-on g c = λ t. goes_on_same _ _ (c.in-Err.ensures.err t)

pub returns-in-Ok-sync-clause-on : goal.returns-in-Ok-sync-clause-on
returns-in-Ok-sync-clause-on g c = λ t.
    sync_on (g.D.Disk.lane_of c.args.disk.now c.args.lane) (g.D.Disk.lane_of c.reserve.new.self c.args.lane) (g.D.Disk.lane_of c.sync.new.self c.args.lane) _ _ (c.in-Ok.ensures.room t) (c.sync.ensures.after t)

pub returns-in-Err-sync-clause-on : goal.returns-in-Err-sync-clause-on
returns-in-Err-sync-clause-on g c = λ t.
    sync_on (g.D.Disk.lane_of c.args.disk.now c.args.lane) (g.D.Disk.lane_of c.reserve.new.self c.args.lane) (g.D.Disk.lane_of c.sync.new.self c.args.lane) _ _ (c.in-Ok.ensures.room t) (c.sync.ensures.after t)
