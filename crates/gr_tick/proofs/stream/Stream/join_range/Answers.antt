use Rattle.std.proofs.Common.{arith, ap}
use Rattle.gr_tick.specs.Runs.{value_at}
use Rattle.gr_tick.specs.Stored.{runs_in, within}
use Rattle.gr_tick.proofs.LawLemmas.{unjoined}
use Rattle.gr_tick.proofs.RunsLemmas.{growth-le}
use Rattle.gr_tick.proofs.Canonical.{RunsGive-in_range}
use Rattle.gr_tick.proofs.stream.Stream.join_range.Goals as goal

pub join_over-requires-clause-room : goal.join_over-requires-clause-room
join_over-requires-clause-room g c =
    omega (arith, growth-le c.args.first c.args.last c.self.inside.runs.items, ap (λ k. k.spare) c.self.view_is, ap (λ k. runs_in c.args.first c.args.last k.runs) c.self.view_is)

pub returns-clause-spare : goal.returns-clause-spare
returns-clause-spare g c =
    omega (arith, growth-le c.args.first c.args.last c.self.inside.runs.items, ap (λ k. k.spare) c.self.view_is, ap (λ k. runs_in c.args.first c.args.last k.runs) c.self.view_is)

pub returns-clause-later : goal.returns-clause-later
returns-clause-later g c = λ f l lt le. omega (arith, c.join_over.ensures.later f l lt le, ap (λ k. runs_in f l k.runs) c.self.view_is)

pub returns-then-is_bottom-clause-joined : goal.returns-then-is_bottom-clause-joined
returns-then-is_bottom-clause-joined g c =
    rw (← ap (λ k. k.runs) c.self.view_is)
    (RunsGive-in_range _ _ _ c.self.invariant
    (λ t. unjoined g.V.Lattice.least g.V.Lattice.join_of g.V.Lattice.is_at_most g.met.V.Lattice.laws (within c.args.first c.args.last t) (value_at g.V.Lattice.least c.self.inside.runs.items t) c.args.value (c.is_bottom.ensures.0 c.if-is_bottom.true)))

pub returns-clause-joined : goal.returns-clause-joined
returns-clause-joined g c =
    rw (← ap (λ k. k.runs) c.self.view_is) (RunsGive-in_range _ _ _ c.join_over.ensures.runs c.join_over.ensures.values)
