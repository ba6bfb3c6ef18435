use Rattle.std.proofs.Common.{min, max, arith}
use Rattle.gr_tick.specs.Runs.{value_at}
use Rattle.gr_tick.proofs.RunsLemmas.{EndBefore-later}
use Rattle.gr_tick.proofs.Canonical.{RunsGive-in_range}
use Rattle.gr_tick.proofs.StepLemmas.{none_within}
use Rattle.gr_tick.proofs.piece.Piece.push_cut.Goals as goal

pub returns-then-from-upto-clause-ok : goal.returns-then-from-upto-clause-ok
returns-then-from-upto-clause-ok g c =
    RunsGive-in_range g.V.Lattice.least c.args.self.now _ (rw c.self.view_is at c.self.invariant)
    (λ t. none_within (max c.args.first c.args.run.now.first) (min c.args.last c.args.run.now.last) t (value_at g.V.Lattice.least c.args.self.now t) c.args.run.now.value (omega arith))

pub returns-then-from-upto-clause-past : goal.returns-then-from-upto-clause-past
returns-then-from-upto-clause-past g c = λ t lt. EndBefore-later _ _ _ c.requires.past (omega (arith, c.requires.alone.ordered))

pub push-requires-clause-past : goal.push-requires-clause-past
push-requires-clause-past g c = EndBefore-later _ c.args.run.now.first _ c.requires.past (omega (arith, c.max-from.ensures))
