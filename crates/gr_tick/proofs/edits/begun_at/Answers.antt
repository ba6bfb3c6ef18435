use Rattle.std.proofs.Common.{arith}
use Rattle.gr_tick.proofs.EditLemmas.{drop_read, AreTickRuns-take}
use Rattle.gr_tick.proofs.StepLemmas.{ahead_at}
use Rattle.gr_tick.proofs.SeekLemmas.{BeginBy-ended, begun_with, ahead_with}
use Rattle.gr_tick.proofs.edits.begun_at.Goals as goal

pub returns-then-i-len-clause-front : goal.returns-then-i-len-clause-front
returns-then-i-len-clause-front g c = BeginBy-ended g.V.Lattice.least _ c.args.tick (AreTickRuns-take g.V.Lattice.least c.args.runs.now.items c.args.i c.requires.runs) c.requires.front

pub returns-then-tick-run-clause-front : goal.returns-then-tick-run-clause-front
returns-then-tick-run-clause-front g c = BeginBy-ended g.V.Lattice.least _ c.args.tick (AreTickRuns-take g.V.Lattice.least c.args.runs.now.items c.args.i c.requires.runs) c.requires.front

pub returns-then-tick-run-clause-ahead : goal.returns-then-tick-run-clause-ahead
returns-then-tick-run-clause-ahead g c = ahead_at g.V.Lattice.least c.args.runs.now.items c.args.i c.args.tick c.get-run.result.now (omega arith) c.get-run.ensures c.requires.runs c.if-tick-run.true

pub returns-clause-front : goal.returns-clause-front
returns-clause-front g c = begun_with g.V.Lattice.least c.args.runs.now.items c.args.i c.args.tick c.get-run.result.now (omega arith) c.get-run.ensures c.requires.runs c.requires.front (omega arith)

pub returns-clause-ahead : goal.returns-clause-ahead
returns-clause-ahead g c =
    ahead_with g.V.Lattice.least c.args.runs.now.items c.args.i c.args.tick c.get-run.result.now (omega arith) c.get-run.ensures c.requires.runs
    (c.requires.here _ _ (drop_read c.args.runs.now.items c.args.i c.get-run.result.now (omega arith) c.get-run.ensures))
