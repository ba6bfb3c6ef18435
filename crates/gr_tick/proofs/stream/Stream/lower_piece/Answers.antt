use Rattle.std.proofs.Common.{ap}
use Rattle.gr_tick.proofs.Canonical.{RunsGive-in_range}
use Rattle.gr_tick.proofs.stream.Stream.lower_piece.Goals as goal

pub returns-clause-lowered : goal.returns-clause-lowered
returns-clause-lowered g c =
    rw (← ap (λ k. k.runs) c.self.view_is, ← c.runs.ensures.items) (RunsGive-in_range _ _ _ c.lower_each.ensures.runs c.lower_each.ensures.values)
