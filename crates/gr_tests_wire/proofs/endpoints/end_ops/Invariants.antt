use Rattle.gr_out.specs.Lane.{lane_at}
use Rattle.gr_publog.specs.Views.{lanes_at, IsReady}
use Rattle.gr_tests_wire.proofs.endpoints.end_ops.Given as goal

-- the lanes hold what is in the endpoint's log
abbrev pub invariant-loop-op : goal.invariant-loop-op
invariant-loop-op l = IsReady l.end.log (lanes_at (lane_at l.disk.lanes) l.end.log.lane)
