use Rattle.std.proofs.Common.{arith}
use Rattle.gr_tick.proofs.StepLemmas.{ahead_at, ahead_none, gap_lowered}
use Rattle.gr_tick.proofs.edits.lower_step.Goals as goal

pub returns-then-i-len-clause-values : goal.returns-then-i-len-clause-values
returns-then-i-len-clause-values g c = λ t.
    gap_lowered _ _ c.seek-i.result _ _ t c.seek-i.ensures.front (ahead_none c.args.runs.now.items c.seek-i.result _ (omega arith))

pub returns-then-last-start-clause-values : goal.returns-then-last-start-clause-values
returns-then-last-start-clause-values g c = λ t.
    gap_lowered _ _ c.seek-i.result _ _ t c.seek-i.ensures.front (ahead_at _ c.args.runs.now.items c.seek-i.result _ c.get-run.result.now (omega arith) c.get-run.ensures c.requires.runs c.if-last-start.true)

pub returns-then-first-start-clause-values : goal.returns-then-first-start-clause-values
returns-then-first-start-clause-values g c = λ t.
    gap_lowered _ _ c.seek-i.result _ _ t c.seek-i.ensures.front (ahead_at _ c.args.runs.now.items c.seek-i.result _ c.get-run.result.now (omega arith) c.get-run.ensures c.requires.runs (omega arith))
