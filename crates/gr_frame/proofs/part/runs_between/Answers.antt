-- Run by run, the part is the range so far
use Rattle.std.proofs.Common.{arith}
use Rattle.gr_frame.proofs.Loop.{in_range}
use Rattle.gr_frame.proofs.Ranges.{range_past, range_pushed}
use Rattle.gr_frame.proofs.part.runs_between.Goals as goal

pub push-requires-clause-past : goal.push-requires-clause-past
push-requires-clause-past g c =
    let runs = in_range g.V.Lattice.least c.args.piece.now c.len.ensures.canonical c.len.ensures.in_range in
    range_past g.V.Lattice.least c.args.piece.now c.runs.part c.args.start c.runs.i c.run-run.result.now runs c.run-run.ensures.run (omega arith) c.runs.invariant

pub runs-preserved : goal.runs-preserved
runs-preserved g c =
    let runs = in_range g.V.Lattice.least c.args.piece.now c.len.ensures.canonical c.len.ensures.in_range in
    range_pushed g.V.Lattice.least c.args.piece.now c.runs.part c.push.new.self c.args.start c.runs.i c.run-run.result.now c.share.result runs c.run-run.ensures.run (omega arith)
    c.runs.invariant c.share.ensures c.in_ok-push.ensures.ok
