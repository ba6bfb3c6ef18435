use Rattle.std.proofs.Common.{arith}
use Rattle.gr_tick.proofs.EditLemmas.{drop_read}
use Rattle.gr_tick.proofs.StepLemmas.{ahead_at, ahead_none, gap_steady, read_alone, run_steady}
use Rattle.gr_tick.proofs.SteadyLemmas.{gap_changes, run_changes}
use Rattle.gr_tick.proofs.edits.steady_until.Goals as goal

pub returns-then-i-len-clause-steady : goal.returns-then-i-len-clause-steady
returns-then-i-len-clause-steady g c = λ t lo hi.
    gap_steady _ c.args.runs.now.items c.seek-i.result c.args.tick _ t c.seek-i.ensures.front (ahead_none c.args.runs.now.items c.seek-i.result t (omega arith)) lo (omega arith)

pub returns-then-tick-run-clause-inside : goal.returns-then-tick-run-clause-inside
returns-then-tick-run-clause-inside g c =
    let is = read_alone g.V.Lattice.least c.args.runs.now.items c.seek-i.result c.get-run.result.now (omega arith) c.get-run.ensures c.requires.runs in
    omega (arith, is.ordered, is.upto)

pub returns-then-tick-run-clause-steady : goal.returns-then-tick-run-clause-steady
returns-then-tick-run-clause-steady g c = λ t lo hi.
    gap_steady _ c.args.runs.now.items c.seek-i.result c.args.tick _ t c.seek-i.ensures.front (ahead_at g.V.Lattice.least c.args.runs.now.items c.seek-i.result t c.get-run.result.now (omega arith) c.get-run.ensures c.requires.runs (omega arith)) lo (omega arith)

pub returns-clause-inside : goal.returns-clause-inside
returns-clause-inside g c = (read_alone g.V.Lattice.least c.args.runs.now.items c.seek-i.result c.get-run.result.now (omega arith) c.get-run.ensures c.requires.runs).upto

pub returns-clause-steady : goal.returns-clause-steady
returns-clause-steady g c = λ t lo hi.
    run_steady g.V.Lattice.least c.args.runs.now.items c.seek-i.result c.args.tick t c.get-run.result.now (omega arith) c.get-run.ensures c.requires.runs (omega arith) lo hi

pub returns-then-tick-run-clause-greatest : goal.returns-then-tick-run-clause-greatest
returns-then-tick-run-clause-greatest g c = λ lt.
    gap_changes g.V.Lattice.least c.args.runs.now.items c.seek-i.result c.args.tick _ c.get-run.result.now (omega arith) c.get-run.ensures c.requires.runs c.seek-i.ensures.front (omega arith) (omega arith)

pub returns-clause-greatest : goal.returns-clause-greatest
returns-clause-greatest g c = λ lt.
    run_changes g.V.Lattice.least c.args.runs.now.items c.seek-i.result c.args.tick c.get-run.result.now (omega arith) c.get-run.ensures c.requires.runs (omega arith) (c.seek-i.ensures.here _ _ (drop_read c.args.runs.now.items c.seek-i.result c.get-run.result.now (omega arith) c.get-run.ensures))
