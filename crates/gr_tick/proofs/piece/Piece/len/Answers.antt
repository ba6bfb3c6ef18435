use Rattle.gr_tick.proofs.Canonical.{AreRuns-in_range, EndBefore-in_range}
use Rattle.gr_tick.proofs.piece.Piece.len.Goals as goal

pub returns-clause-canonical : goal.returns-clause-canonical
returns-clause-canonical g c = AreRuns-in_range g.V.Lattice.least c.args.self.now (rw c.self.view_is at c.self.invariant)

pub returns-clause-in_range : goal.returns-clause-in_range
returns-clause-in_range g c = EndBefore-in_range g.V.Lattice.least c.args.self.now (rw c.self.view_is at c.self.invariant)
