use Rattle.std.proofs.Common.{ap, ◌∙◌, arith}
use Rattle.std.proofs.lemmas.List.{take-append-drop}
use Rattle.gr_tick.specs.Runs.{value_at}
use Rattle.gr_tick.proofs.StepLemmas.{ahead_at, ahead_none, passed_over}
use Rattle.gr_tick.proofs.edits.whole_upto.Goals as goal

pub loop-upto-init : goal.loop-upto-init
loop-upto-init g c = record {
  forward = omega arith;
  inside = c.requires.within;
  values = λ t out. ap (λ zs. value_at g.V.Lattice.least zs t) (take-append-drop c.args.from c.args.runs.now.items);
}

pub returns-then-last-run-clause-within : goal.returns-then-last-run-clause-within
returns-then-last-run-clause-within g c = (c.loop-upto.invariant.forward, c.loop-upto.invariant.inside)

pub returns-then-last-run-clause-ahead : goal.returns-then-last-run-clause-ahead
returns-then-last-run-clause-ahead g c =
    ahead_at g.V.Lattice.least c.args.runs.now.items c.loop-upto.upto c.args.last c.get-run.result.now (omega arith) c.get-run.ensures c.requires.runs c.if-last-run.true

pub returns-then-last-run-clause-values : goal.returns-then-last-run-clause-values
returns-then-last-run-clause-values g c = c.loop-upto.invariant.values

pub loop-upto-preserved : goal.loop-upto-preserved
loop-upto-preserved g c = record {
  forward = omega (arith, c.loop-upto.invariant.forward);
  inside = omega arith;
  values = λ t out.
      passed_over g.V.Lattice.least c.args.runs.now.items c.args.from c.loop-upto.upto c.args.first c.args.last t c.get-run.result.now (omega arith) c.get-run.ensures (omega arith) (omega arith) out
      ∙ c.loop-upto.invariant.values t out;
}

pub returns-clause-within : goal.returns-clause-within
returns-clause-within g c = (c.loop-upto.invariant.forward, c.loop-upto.invariant.inside)

pub returns-clause-ahead : goal.returns-clause-ahead
returns-clause-ahead g c = ahead_none c.args.runs.now.items c.loop-upto.upto c.args.last (omega arith)

pub returns-clause-values : goal.returns-clause-values
returns-clause-values g c = c.loop-upto.invariant.values
