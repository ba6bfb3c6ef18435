use Rattle.std.proofs.Common.{arith, ◌-◌}
use Rattle.gr_frame.proofs.Loop.{above_last, in_range}
use Rattle.gr_frame.proofs.reading.is_above.Goals as goal

pub returns-clause-above : goal.returns-clause-above
returns-clause-above g c = above_last c.args.found.now (c.len-count.result - 1) c.args.first c.run.result.now c.run.ensures.run (omega (arith, c.len-count.ensures.len))

pub returns-clause-runs : goal.returns-clause-runs
returns-clause-runs g c = in_range g.V.Lattice.least c.args.found.now c.len-count.ensures.canonical c.len-count.ensures.in_range
