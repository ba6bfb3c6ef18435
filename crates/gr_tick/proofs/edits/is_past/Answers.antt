-- Where the last run ends before the tick, all do
use Rattle.std.proofs.Common.{◌+◌, ◌-◌, subst, arith}
use Rattle.std.proofs.lemmas.Bool.{ltb-true}
use Rattle.std.proofs.lemmas.List.{take_all}
use Rattle.gr_tick.specs.Stored.{EndBefore}
use Rattle.gr_tick.proofs.SeekLemmas.{seek_low}
use Rattle.gr_tick.proofs.edits.is_past.Goals as goal

pub returns : goal.returns
returns g c = λ e.
    subst (λ zs. EndBefore zs c.args.tick) (take_all (c.len-count.result - 1 + 1) c.args.runs.now.items (omega arith))
    (seek_low g.V.Lattice.least c.args.runs.now.items (c.len-count.result - 1) c.args.tick c.get-newest.result.now (omega arith) c.get-newest.ensures c.requires (ltb-true _ _ e))
