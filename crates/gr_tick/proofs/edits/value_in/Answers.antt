use Rattle.std.proofs.Common.{arith, ◌∙◌}
use Rattle.gr_tick.proofs.EditLemmas.{drop_read}
use Rattle.gr_tick.proofs.StepLemmas.{ahead_at, ahead_none}
use Rattle.gr_tick.proofs.SeekLemmas.{gap_at, run_at}
use Rattle.gr_tick.proofs.edits.value_in.Goals as goal

pub returns-then-i-len : goal.returns-then-i-len
returns-then-i-len g c =
    c.bottom.ensures ∙ gap_at g.V.Lattice.least c.args.runs.now.items c.seek-i.result c.args.tick c.seek-i.ensures.front (ahead_none c.args.runs.now.items c.seek-i.result c.args.tick (omega arith))

pub returns-then-tick-run : goal.returns-then-tick-run
returns-then-tick-run g c =
    c.bottom-then-tick-run.ensures
    ∙ gap_at g.V.Lattice.least c.args.runs.now.items c.seek-i.result c.args.tick c.seek-i.ensures.front (ahead_at g.V.Lattice.least c.args.runs.now.items c.seek-i.result c.args.tick c.get-run.result.now (omega arith) c.get-run.ensures c.requires c.if-tick-run.true)

pub returns : goal.returns
returns g c =
    c.share.ensures
    ∙ run_at g.V.Lattice.least c.args.runs.now.items c.seek-i.result c.args.tick c.get-run.result.now (omega arith) c.get-run.ensures c.requires (omega arith)
    (c.seek-i.ensures.here _ _ (drop_read c.args.runs.now.items c.seek-i.result c.get-run.result.now (omega arith) c.get-run.ensures))
