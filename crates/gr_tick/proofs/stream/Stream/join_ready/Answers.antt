use Rattle.std.proofs.Common.{ap}
use Rattle.gr_tick.proofs.Canonical.{RunsGive-in_range}
use Rattle.gr_tick.proofs.stream.Stream.join_ready.Goals as goal

pub returns-clause-joined : goal.returns-clause-joined
returns-clause-joined g c =
    rw (← ap (λ k. k.runs) c.self.view_is, ← c.runs.ensures.items) (RunsGive-in_range _ _ _ c.join_each.ensures.runs c.join_each.ensures.values)
