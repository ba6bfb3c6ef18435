use Rattle.std.proofs.Common.{take, arith}
use Rattle.gr_tick.proofs.RunsLemmas.{EndBefore-later}
use Rattle.gr_tick.proofs.SeekLemmas.{seek_here}
use Rattle.gr_tick.proofs.edits.begun_from.Goals as goal

pub begun_at-requires-clause-front : goal.begun_at-requires-clause-front
begun_at-requires-clause-front g c = EndBefore-later (take c.args.begin c.args.runs.now.items) c.args.first c.args.tick c.requires.front (omega arith)

pub begun_at-requires-clause-here : goal.begun_at-requires-clause-here
begun_at-requires-clause-here g c = seek_here c.args.runs.now.items c.args.begin c.args.tick c.get-run.result.now (omega arith) c.get-run.ensures (omega arith)
