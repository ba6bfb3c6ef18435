use Rattle.std.proofs.Common.{ap, subst}
use Rattle.gr_tick.specs.Stored.{AreTickRuns}
use Rattle.gr_tick.proofs.Canonical.{AreRuns-in_range}
use Rattle.gr_tick.proofs.stream.Stream.top.Goals as goal

pub returns-clause-canonical : goal.returns-clause-canonical
returns-clause-canonical g c = AreRuns-in_range g.V.Lattice.least c.args.self.now.runs (subst (λ zs. AreTickRuns g.V.Lattice.least zs) (ap (λ k. k.runs) c.self.view_is) c.self.invariant)
