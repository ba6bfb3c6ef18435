-- A stop leaves what the lanes hold, and the log is that of the lanes from 0 on
use Rattle.std.proofs.Common.{ℕ, sym, subst}
use Rattle.gr_out.specs.Lane.{lane_at}
use Rattle.gr_publog.specs.Views.{lanes_at, Stands}
use Rattle.gr_tests_wire.proofs.logs.append_stopped.Goals as goal

pub append-requires-clause-stands : goal.append-requires-clause-stands
append-requires-clause-stands c = λ t whole. subst (λ (n : ℕ). Stands (lanes_at (lane_at c.stop_lane.new.disk.lanes) n) c.in-Ok.log) (sym c.in-Ok.ensures.lane) (c.in_ok-stop_lane.ensures.stands whole)
