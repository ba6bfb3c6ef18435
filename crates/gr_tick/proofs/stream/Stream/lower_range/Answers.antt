use Rattle.std.proofs.Common.{cond, ap, ◌∙◌}
use Rattle.gr_tick.specs.Runs.{value_at}
use Rattle.gr_tick.specs.Stored.{within}
use Rattle.gr_tick.proofs.Canonical.{RunsGive-in_range}
use Rattle.gr_tick.proofs.stream.Stream.lower_range.Goals as goal

pub returns-clause-lowered : goal.returns-clause-lowered
returns-clause-lowered g c =
    rw (← ap (λ k. k.runs) c.self.view_is)
    (RunsGive-in_range _ _ _ c.lower_over.ensures.runs
    (λ t. c.lower_over.ensures.values t ∙ ap (λ zs. cond (within c.args.first c.args.last t) g.V.Lattice.least (value_at g.V.Lattice.least zs t)) c.reserve.ensures.kept))
