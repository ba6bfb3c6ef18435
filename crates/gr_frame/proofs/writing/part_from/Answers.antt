-- A run goes into the part where it fits, and ends it where not
use Rattle.std.proofs.Common.{arith}
use Rattle.gr_frame.proofs.Cutting.{part_begun, part_grown, part_full, part_last}
use Rattle.gr_frame.proofs.Putting.{size_begun, size_grown}
use Rattle.gr_frame.proofs.writing.part_from.Goals as goal

pub loop-end-init : goal.loop-end-init
loop-end-init g c = record {
  low = omega (arith, c.run_size.ensures.least);
  high = omega (arith, c.run_size.ensures.most, c.requires.room);
  size = size_begun g.V.FrameValue.form c.args.piece.now c.args.room c.args.start c.run_size.result c.run.result.now c.run.ensures.run (c.run_size.ensures.spelled c.run.ensures.alone.known);
  cut = part_begun c.args.room g.V.FrameValue.form.size c.args.piece.now c.args.start c.run_size.result c.run.result.now c.run.ensures.run c.run_size.ensures.size;
}

pub loop-end-preserved : goal.loop-end-preserved
loop-end-preserved g c = record {
  low = omega (arith, c.loop-end.invariant.low, c.run_size-more.ensures.least);
  high = omega arith;
  size = size_grown g.V.FrameValue.form c.args.piece.now c.args.room c.loop-end.size c.args.start c.loop-end.end c.run_size-more.result c.run-in-loop-end.result.now
      c.run-in-loop-end.ensures.run (omega arith) (c.run_size-more.ensures.spelled c.run-in-loop-end.ensures.alone.known) c.loop-end.invariant.size;
  cut = part_grown c.args.room g.V.FrameValue.form.size c.args.piece.now c.loop-end.size c.run_size-more.result c.args.start c.loop-end.end c.run-in-loop-end.result.now _
      c.run-in-loop-end.ensures.run c.run_size-more.ensures.size (omega arith) (omega arith) c.loop-end.invariant.cut;
}

pub returns-then-size-more-gt-MAX_FRAME_BYTES-clause-cut : goal.returns-then-size-more-gt-MAX_FRAME_BYTES-clause-cut
returns-then-size-more-gt-MAX_FRAME_BYTES-clause-cut g c =
    part_full c.args.room g.V.FrameValue.form.size c.args.piece.now c.loop-end.size c.run_size-more.result c.args.start c.loop-end.end c.run-in-loop-end.result.now _
    c.run-in-loop-end.ensures.run c.run_size-more.ensures.size (omega arith) c.loop-end.invariant.cut

pub returns-clause-cut : goal.returns-clause-cut
returns-clause-cut g c =
    part_last c.args.room g.V.FrameValue.form.size c.args.piece.now c.loop-end.size c.args.start c.loop-end.end c.len-count.result _ (omega (arith, c.requires.within)) c.len-count.ensures.len c.loop-end.invariant.cut
