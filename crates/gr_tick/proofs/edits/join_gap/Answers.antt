use Rattle.std.proofs.Common.{ap, cond, ◌∙◌, arith}
use Rattle.gr_tick.specs.Runs.{value_at}
use Rattle.gr_tick.specs.Stored.{within}
use Rattle.gr_tick.proofs.EditLemmas.{AreTickRuns-take, AreTickRuns-drop}
use Rattle.gr_tick.proofs.StepLemmas.{gap_values, runs_in-drop}
use Rattle.gr_tick.proofs.edits.join_gap.Goals as goal

pub put_run-requires-clause-before : goal.put_run-requires-clause-before
put_run-requires-clause-before g c = AreTickRuns-take _ _ c.args.i c.requires.runs

pub put_run-requires-clause-after : goal.put_run-requires-clause-after
put_run-requires-clause-after g c = AreTickRuns-drop _ _ c.args.i c.requires.runs

pub returns-clause-values : goal.returns-clause-values
returns-clause-values g c =
    gap_values _ _ _ c.args.value.now c.args.runs.now.items _ c.args.i c.args.first c.args.last g.met.V.Lattice.laws c.requires.past c.requires.ahead
    (λ t. c.put_run.ensures.values t ∙ ap (λ w. cond (within c.args.first c.args.last t) w (value_at g.V.Lattice.least c.args.runs.now.items t)) c.share.ensures)

pub returns-clause-later : goal.returns-clause-later
returns-clause-later g c = λ f l lt le. omega (arith, c.put_run.ensures.later f l lt le, runs_in-drop f l c.args.runs.now.items c.args.i)
