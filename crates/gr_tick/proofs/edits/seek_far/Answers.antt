-- The runs that end before the tick are those whose last tick is below it.
use Rattle.gr_tick.proofs.SeekLemmas.{ends_rise, ended_upto}
use Rattle.gr_tick.proofs.edits.seek_far.Goals as goal

pub count_below-found-requires : goal.count_below-found-requires
count_below-found-requires g c = ends_rise g.V.Lattice.least c.args.runs.now.items c.requires

pub returns-clause-front : goal.returns-clause-front
returns-clause-front g c =
    ended_upto c.args.runs.now.items c.count_below-found.result c.args.tick c.count_below-found.ensures.within c.count_below-found.ensures.point.0
