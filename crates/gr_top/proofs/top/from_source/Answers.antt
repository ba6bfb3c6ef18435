use Rattle.std.proofs.Common.{refl}
use Rattle.gr_scenario.specs.Scenario.{asked_by}
use Rattle.gr_top.proofs.CutLemmas.{cut_nothing_of}
use Rattle.gr_top.proofs.top.from_source.Goals as goal

-- where nothing was read, nothing was taken
pub returns-in-Err-Memory-clause-cut : goal.returns-in-Err-Memory-clause-cut
returns-in-Err-Memory-clause-cut g c = λ cut scenario.
    cut_nothing_of (g.K.Sink.taken c.args.sink.now) (g.K.Sink.taken c.args.sink.now) (g.S.Source.left c.args.source.now) asked_by refl
