use Rattle.std.proofs.Common.{ap, ◌∙◌}
use Rattle.gr_tick.specs.Runs.{value_at}
use Rattle.gr_tick.proofs.Canonical.{RunsGive-in_range}
use Rattle.gr_tick.proofs.stream.Stream.join_piece.Goals as goal

pub returns-clause-joined : goal.returns-clause-joined
returns-clause-joined g c =
    rw (← ap (λ k. k.runs) c.self.view_is, ← c.runs-others.ensures.items)
    (RunsGive-in_range _ _ _ c.join_each.ensures.runs
    (λ t. c.join_each.ensures.values t ∙ ap (λ zs. g.V.Lattice.join_of (value_at g.V.Lattice.least zs t) (value_at g.V.Lattice.least c.runs-others.result.now.items t)) c.reserve.ensures.kept))
