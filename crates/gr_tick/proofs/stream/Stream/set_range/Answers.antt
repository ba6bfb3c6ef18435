use Rattle.std.proofs.Common.{ap}
use Rattle.gr_tick.proofs.Canonical.{RunsGive-in_range}
use Rattle.gr_tick.proofs.stream.Stream.set_range.Goals as goal

pub returns-clause-put : goal.returns-clause-put
returns-clause-put g c =
    rw (← ap (λ k. k.runs) c.self.view_is) (RunsGive-in_range _ _ _ c.set_over.ensures.runs c.set_over.ensures.values)
