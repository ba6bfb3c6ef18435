use Rattle.std.proofs.Common.{arith}
use Rattle.gr_tick.proofs.SeekLemmas.{seek_low}
use Rattle.gr_tick.proofs.edits.seek_before.Goals as goal

-- where the first run ends before the tick, all before the second do
pub returns-then-tick-second-clause-front : goal.returns-then-tick-second-clause-front
returns-then-tick-second-clause-front g c =
    seek_low g.V.Lattice.least c.args.runs.now.items 0 c.args.tick c.get-oldest.result.now (omega arith) c.get-oldest.ensures c.requires.runs (omega arith)

-- and where one nearer does, all up to it do
pub bisect-found-requires-clause-front : goal.bisect-found-requires-clause-front
bisect-found-requires-clause-front g c =
    seek_low g.V.Lattice.least c.args.runs.now.items c.saturating_sub-from.result c.args.tick c.get-farther.result.now (omega arith) c.get-farther.ensures c.requires.runs (omega arith)
