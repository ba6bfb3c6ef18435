use Rattle.std.proofs.Common.{ap}
use Rattle.gr_tick.proofs.SteadyLemmas.{first_bottom_from-only}
use Rattle.gr_tick.proofs.stream.Stream.first_bottom_from.Goals as goal

pub returns-clause-first : goal.returns-clause-first
returns-clause-first g c =
    rw (← ap (λ k. k.runs) c.self.view_is)
    (first_bottom_from-only g.V.Lattice.least c.self.inside.runs.items c.args.tick c.next_bottom.result c.self.invariant c.next_bottom.ensures.forward c.next_bottom.ensures.bottom c.next_bottom.ensures.least)
