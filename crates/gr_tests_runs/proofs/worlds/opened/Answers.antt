use Rattle.std.proofs.Common.{ap}
use Rattle.gr_out.specs.Lane.{lane_at}
use Rattle.gr_tests_runs.proofs.worlds.opened.Goals as goal

-- a disk of which no call was made has no stop
pub invariant_of-run : goal.invariant_of-run
invariant_of-run c = (
  c.in-Ok-new.ensures.fits,
  c.in-Ok-new.ensures.lanes (λ n. ap (λ ls. (lane_at ls n).stop) c.in_ok-disk.ensures.lanes),
)
