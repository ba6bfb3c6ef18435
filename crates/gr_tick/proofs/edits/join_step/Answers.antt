use Rattle.std.proofs.Common.{arith, sym, ◌∙◌}
use Rattle.gr_tick.proofs.StepLemmas.{ahead_at, growth_gap_at}
use Rattle.gr_tick.proofs.EditLemmas.{drop_read}
use Rattle.gr_tick.proofs.ToldLemmas.{unjoined_values, unjoined_growth}
use Rattle.gr_tick.proofs.edits.join_step.Goals as goal

pub join_gap-requires-then-last-start-clause-ahead : goal.join_gap-requires-then-last-start-clause-ahead
join_gap-requires-then-last-start-clause-ahead g c = ahead_at _ c.args.runs.now.items c.seek-i.result _ c.get-run.result.now (omega arith) c.get-run.ensures c.requires.runs c.if-last-start.true

pub join_gap-requires-then-first-start-clause-ahead : goal.join_gap-requires-then-first-start-clause-ahead
join_gap-requires-then-first-start-clause-ahead g c = ahead_at _ c.args.runs.now.items c.seek-i.result _ c.get-run.result.now (omega arith) c.get-run.ensures c.requires.runs (omega arith)

pub returns-then-first-start-clause-growth : goal.returns-then-first-start-clause-growth
returns-then-first-start-clause-growth g c =
    growth_gap_at _ c.args.runs.now.items c.join_gap-then-first-start.new.runs.items c.seek-i.result c.args.first c.args.last _ _ _ c.get-run.result.now (omega arith) c.get-run.ensures c.requires.runs c.if-first-start.true c.if-last-start.false (omega arith) (c.join_gap-then-first-start.ensures.room c.args.last)

pub returns-then-at_most-clause-values : goal.returns-then-at_most-clause-values
returns-then-at_most-clause-values g c = λ t.
    unjoined_values g.V.Lattice.least c.args.runs.now.items c.seek-i.result c.args.first c.get-run.result.now (omega arith) c.get-run.ensures c.requires.runs (omega arith)
    (c.seek-i.ensures.here _ _ (drop_read c.args.runs.now.items c.seek-i.result c.get-run.result.now (omega arith) c.get-run.ensures))
    g.V.Lattice.join_of g.V.Lattice.is_at_most c.args.value.now c.min.result t g.met.V.Lattice.laws (sym c.at_most.ensures ∙ c.if-at_most.true) (omega arith)

pub returns-then-at_most-clause-growth : goal.returns-then-at_most-clause-growth
returns-then-at_most-clause-growth g c =
    unjoined_growth g.V.Lattice.least c.args.runs.now.items c.seek-i.result c.args.first c.get-run.result.now (omega arith) c.get-run.ensures c.requires.runs (omega arith)
    (c.seek-i.ensures.here _ _ (drop_read c.args.runs.now.items c.seek-i.result c.get-run.result.now (omega arith) c.get-run.ensures))
    c.min.result c.args.last c.args.runs.now.spare c.requires.ordered (omega arith)
