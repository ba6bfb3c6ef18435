-- No call takes one back
use Rattle.std.proofs.Common.{false}
use Rattle.gr_publog.proofs.Keeping.{keeps_write, keeps_sync, keeps_then}
use Rattle.gr_publog.proofs.steps.put.Goals as goal

pub returns-in_err-write_at-clause-keeps : goal.returns-in_err-write_at-clause-keeps
returns-in_err-write_at-clause-keeps g c = λ t. keeps_write _ _ _ _ _ (c.write_at.ensures.after t)

pub returns-clause-keeps : goal.returns-clause-keeps
returns-clause-keeps g c = λ t.
    let l1 = g.D.Disk.lane_of c.write_at.new.self c.args.lane in
    keeps_then _ l1 _ (keeps_write false _ l1 c.args.at c.args.bytes.now (c.in_ok-write_at.ensures.after t)) (keeps_sync _ _ _ (c.sync.ensures.after t))
