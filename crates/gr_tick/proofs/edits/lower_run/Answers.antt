use Rattle.std.proofs.Common.{arith}
use Rattle.gr_tick.proofs.StepLemmas.{carved_is, read_alone, carved_runs, carved_values}
use Rattle.gr_tick.proofs.edits.lower_run.Goals as goal

pub keep_rest-requires-clause-alone : goal.keep_rest-requires-clause-alone
keep_rest-requires-clause-alone g c = read_alone _ _ c.args.i _ (omega arith) c.remove-run.ensures.value c.requires.runs

pub returns-clause-runs : goal.returns-clause-runs
returns-clause-runs g c =
    let k = carved_is g.V.Lattice.least c.args.runs.now.items c.remove-run.new.self.items c.keep_rest.new.runs.items c.args.i c.keep_rest.result c.args.first c.args.last c.remove-run.result (omega arith) c.remove-run.ensures.value c.requires.runs (c.requires.holds _).0 c.requires.ordered (c.requires.holds _).1 c.remove-run.ensures.items c.keep_rest.ensures.before c.keep_rest.ensures.after in
    carved_runs _ _ _ _ _ _ _ _ k

pub returns-clause-values : goal.returns-clause-values
returns-clause-values g c =
    let k = carved_is g.V.Lattice.least c.args.runs.now.items c.remove-run.new.self.items c.keep_rest.new.runs.items c.args.i c.keep_rest.result c.args.first c.args.last c.remove-run.result (omega arith) c.remove-run.ensures.value c.requires.runs (c.requires.holds _).0 c.requires.ordered (c.requires.holds _).1 c.remove-run.ensures.items c.keep_rest.ensures.before c.keep_rest.ensures.after in
    carved_values _ _ _ _ _ _ _ _ k
