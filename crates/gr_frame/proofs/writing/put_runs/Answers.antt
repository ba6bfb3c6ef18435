-- Run by run, what is written are the runs so far
use Rattle.std.proofs.Common.{◌+◌, ◌-◌, [], ◌∷◌, subst, sym, arith}
use Rattle.std.specs.Prelude.{slice_range}
use Rattle.std.specs.List.{AllByRecursion}
use Rattle.gr_frame.proofs.Cutting.{range_more, each_joined}
use Rattle.gr_frame.proofs.Putting.{left_size, run_written}
use Rattle.gr_frame.proofs.writing.put_runs.Goals as goal

pub slice_bounds-put_run-end : goal.slice_bounds-put_run-end
slice_bounds-put_run-end g c =
    let size = c.run_size.ensures.spelled c.run-run.ensures.alone.known in
    let left = left_size g.V.FrameValue.form c.args.piece.now c.loop-i.i c.args.end c.run-run.result.now c.run-run.ensures.run (omega arith) in
    let len = c.loop-i.auto.into in
    omega (arith, size, left, len, c.requires.size, c.loop-i.invariant.left)

pub loop-i-preserved : goal.loop-i-preserved
loop-i-preserved g c =
    let form = g.V.FrameValue.form in
    let piece = c.args.piece.now in
    let run = c.run-run.result.now in
    let there = c.run-run.ensures.run in
    let size = c.run_size.ensures.spelled c.run-run.ensures.alone.known in
    let left = left_size form piece c.loop-i.i c.args.end run there (omega arith) in
    let len = c.loop-i.auto.into in
    record {
      written = run_written form piece c.args.start c.loop-i.i run c.loop-i.at (c.loop-i.at + c.run_size.result - c.loop-i.at) (c.loop-i.at + c.run_size.result)
          c.loop-i.into c.put_run.new.into there (omega arith) (omega (arith, len, c.requires.size, c.loop-i.invariant.left)) (omega (arith, size)) c.put_run.ensures.bytes c.loop-i.invariant.written;
      left = omega (arith, size, left, c.loop-i.invariant.left);
      each = subst (AllByRecursion (λ r. g.V.FrameValue.fits r.value)) (sym (range_more piece c.args.start c.loop-i.i run there (omega arith)))
          (each_joined g.V.FrameValue.fits (slice_range piece c.args.start c.loop-i.i) (run ∷ []) c.loop-i.invariant.each (c.put_run.ensures.fits, tt));
    }
