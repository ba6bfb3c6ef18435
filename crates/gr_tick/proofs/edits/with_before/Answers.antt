use Rattle.std.proofs.Common.{arith}
use Rattle.gr_tick.proofs.EditLemmas.{run_before, left_kept, left_absorbed, left_absorbed_values}
use Rattle.gr_tick.proofs.edits.with_before.Goals as goal

pub overflow_add-before : goal.overflow_add-before
overflow_add-before g c =
    omega (arith, (run_before _ c.args.runs.now.items c.args.i c.get-before.result.now (omega arith) (omega arith) c.get-before.ensures c.requires.runs).upto)

pub returns-then-before-run-clause-runs : goal.returns-then-before-run-clause-runs
returns-then-before-run-clause-runs g c =
    left_kept _ _ _ c.get-before.result.now _ (omega arith) (omega arith) c.get-before.ensures c.requires.runs c.requires.past c.requires.alone (λ e. absurd (c.if-before-run.true e))

pub returns-then-not-same-clause-runs : goal.returns-then-not-same-clause-runs
returns-then-not-same-clause-runs g c =
    left_kept _ _ _ c.get-before.result.now _ (omega arith) (omega arith) c.get-before.ensures c.requires.runs c.requires.past c.requires.alone (λ _ v. grind arith)

pub returns-clause-runs : goal.returns-clause-runs
returns-clause-runs g c =
    left_absorbed _ _ c.args.i c.get-before.result.now c.args.run (omega arith) (omega arith) c.get-before.ensures c.requires.runs c.requires.alone c.if-before-run.false (grind arith)

pub returns-clause-values : goal.returns-clause-values
returns-clause-values g c = λ d n.
    left_absorbed_values g.V.Lattice.least _ c.args.i c.get-before.result.now c.args.run (omega arith) (omega arith) c.get-before.ensures c.requires.runs c.requires.alone c.if-before-run.false (grind arith) d n

pub returns-clause-first : goal.returns-clause-first
returns-clause-first g c =
    let is = run_before g.V.Lattice.least c.args.runs.now.items c.args.i c.get-before.result.now (omega arith) (omega arith) c.get-before.ensures c.requires.runs in
    omega (arith, is.ordered)
