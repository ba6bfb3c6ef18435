use Rattle.std.proofs.Common.{◌≡◌, ◌+◌, ◌-◌, take, subst, arith}
use Rattle.gr_tick.specs.Stored.{EndBefore}
use Rattle.gr_tick.proofs.SeekLemmas.{seek_low}
use Rattle.gr_tick.proofs.edits.seek_behind.Goals as goal

-- where the last run ends before the tick, all do
pub returns-then-newest-tick-clause-front : goal.returns-then-newest-tick-clause-front
returns-then-newest-tick-clause-front g c =
    let all : (c.len-count.result - 1) + 1 ≡ c.len-count.result = omega arith in
    subst (λ k. EndBefore (take k c.args.runs.now.items) c.args.tick) all
    (seek_low g.V.Lattice.least c.args.runs.now.items (c.len-count.result - 1) c.args.tick c.get-newest.result.now (omega arith) c.get-newest.ensures c.requires.runs c.if-newest-tick.true)

pub bisect-found-requires-clause-front : goal.bisect-found-requires-clause-front
bisect-found-requires-clause-front g c =
    seek_low g.V.Lattice.least c.args.runs.now.items c.args.from c.args.tick c.get-next.result.now (omega arith) c.get-next.ensures c.requires.runs (omega arith)
