use Rattle.std.proofs.Common.{ℕ, ◌≤◌, ◌∙◌, arith}
use Rattle.gr_tick.specs.Stored.{runs_in}
use Rattle.gr_tick.proofs.SeekLemmas.{counted, none_ended}
use Rattle.gr_tick.proofs.edits.count_in.Goals as goal

-- where all runs end before the range, none has a tick of it
pub returns-then-is_past : goal.returns-then-is_past
returns-then-is_past g c = omega (arith, none_ended c.args.first c.args.last c.args.runs.now.items (c.is_past.ensures c.if-is_past.true))

pub returns : goal.returns
returns g c =
    c.saturating_sub.ensures
    ∙ counted g.V.Lattice.least c.args.runs.now.items c.seek-begin.result c.begun_from-end.result c.args.first c.args.last c.requires c.seek-begin.ensures.within c.begun_from-end.ensures.within c.seek-begin.ensures.front c.seek-begin.ensures.here c.begun_from-end.ensures.front c.begun_from-end.ensures.ahead
