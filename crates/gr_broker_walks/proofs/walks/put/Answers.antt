use Rattle.std.proofs.Common.{◌+◌, arith}
use Rattle.gr_tick.proofs.RunsLemmas.{EndBefore-later}
use Rattle.gr_broker_walks.proofs.Walked.{put_nothing}
use Rattle.gr_broker_walks.proofs.walks.put.Goals as goal

pub returns-then-is_bottom-clause-values : goal.returns-then-is_bottom-clause-values
returns-then-is_bottom-clause-values g c = λ t. put_nothing g.V.Lattice.least c.args.value c.args.piece.now c.args.first c.args.last t c.requires.past (c.is_bottom.ensures.0 c.if-is_bottom.true)

pub returns-then-is_bottom-clause-past : goal.returns-then-is_bottom-clause-past
returns-then-is_bottom-clause-past g c = EndBefore-later c.args.piece.now c.args.first (c.args.last + 1) c.requires.past (omega (arith, c.requires.ordered))
