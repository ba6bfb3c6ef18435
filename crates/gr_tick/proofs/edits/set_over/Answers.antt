use Rattle.std.proofs.Common.{◌∙◌}
use Rattle.std.proofs.lemmas.Bool.{cond-true}
use Rattle.gr_tick.specs.Runs.{value_at}
use Rattle.gr_tick.specs.Stored.{within}
use Rattle.gr_tick.proofs.EditLemmas.{AreTickRuns-take, AreTickRuns-drop}
use Rattle.gr_tick.proofs.StepLemmas.{cond_same}
use Rattle.gr_tick.proofs.SteadyLemmas.{lowered_ahead}
use Rattle.gr_tick.proofs.edits.set_over.Goals as goal

-- All runs of the range lie whole in it

pub put_over-requires-clause-before : goal.put_over-requires-clause-before
put_over-requires-clause-before g c = AreTickRuns-take _ _ c.seek-from.result c.requires.runs

pub put_over-requires-clause-after : goal.put_over-requires-clause-after
put_over-requires-clause-after g c = AreTickRuns-drop _ _ c.in-Some.upto c.requires.runs

pub returns-in-Some-clause-values : goal.returns-in-Some-clause-values
returns-in-Some-clause-values g c = λ t.
    c.put_over.ensures.values t
    ∙ cond_same (within c.args.first c.args.last t) _ _ _ _ (λ _. c.share.ensures) (c.in-Some.ensures.values t)

-- One has ticks out of it too, or the value is the least one

pub join_gap-requires-clause-ahead : goal.join_gap-requires-clause-ahead
join_gap-requires-clause-ahead g c =
    lowered_ahead g.V.Lattice.least c.lower_over.new.runs.items c.seek-i.result c.args.first c.args.last c.lower_over.ensures.runs c.requires.ordered
    c.seek-i.ensures.here
    (λ t y. c.lower_over.ensures.values t ∙ cond-true _ g.V.Lattice.least (value_at g.V.Lattice.least c.args.runs.now.items t) y)
