use Rattle.std.proofs.Common.{◌≡◌}
use Rattle.gr_out.specs.Lane.{lane_at}
use Rattle.gr_publog.specs.Views.{lanes_at, IsReady}
use Rattle.gr_tests_wire.proofs.logs.log_ops.Given as goal

-- the lanes hold what is in the log
abbrev pub invariant-loop-op : goal.invariant-loop-op
invariant-loop-op l = (l.log.lane ≡ 0) × IsReady l.log (lanes_at (lane_at l.disk.lanes) 0)
