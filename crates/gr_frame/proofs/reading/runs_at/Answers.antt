-- What was read so far, before what is left, is what all gives; a whole run goes behind it
use Rattle.std.proofs.Common.{◌≡◌, ◌-◌, ◌+◌, ◌++◌, ◌∷◌, [], arith, ap}
use Rattle.std.proofs.lemmas.Result.{err_from_is_err_and}
use Rattle.gr_frame.specs.Decode.{last_run, run_size}
use Rattle.gr_frame.proofs.Loop.{pushed, run_read, run_refused, ends, trails}
use Rattle.gr_frame.proofs.reading.runs_at.Goals as goal

pub returns-in_err-run : goal.returns-in_err-run
returns-in_err-run g c =
    let p = err_from_is_err_and c.from_residual.result c.from_residual.ensures.1 in
    rw (p.1, p.2) (run_refused g.V.FrameValue.form c.loop.found c.args.bytes.now (c.args.count - c.loop.counter) (c.args.count - (c.loop.counter + 1)) c.loop.at c.in_err-run.field-0.0 _ (omega arith) c.in_err-run.ensures.gives c.loop.invariant.read)

pub loop-preserved : goal.loop-preserved
loop-preserved g c =
    let size : c.run_size-at.result ≡ run_size g.V.FrameValue.form c.in_ok-run.run' = c.run_size-at.ensures.spelled c.in_ok-run.ensures.alone.known in
    let more : c.push.new.self ≡ c.loop.found ++ c.in_ok-run.run' ∷ [] = pushed g.V.Lattice.least c.loop.found c.push.new.self c.in_ok-run.run' c.in_ok-run.ensures.joins c.in_ok-run.ensures.past c.in_ok-push.ensures.ok in
    record {
      inside = omega (arith, size, c.in_ok-run.ensures.within);
      read = run_read g.V.FrameValue.form c.loop.found c.push.new.self c.args.bytes.now (c.args.count - c.loop.counter) (c.args.count - (c.loop.counter + 1)) c.loop.at (c.loop.at + c.run_size-at.result) c.in_ok-run.run' _ more (omega arith) (ap (λ k. c.loop.at + k) size) c.in_ok-run.ensures.gives c.loop.invariant.read;
    }

pub returns-then-at-bytes : goal.returns-then-at-bytes
returns-then-at-bytes g c =
    rw c.fault.ensures (trails g.V.FrameValue.form c.loop.found c.args.bytes.now (c.args.count - c.loop.counter) c.loop.at (last_run c.loop.found) _ (omega arith) c.if-at-bytes.true c.loop.invariant.read)

pub returns : goal.returns
returns g c = ends g.V.FrameValue.form c.loop.found c.args.bytes.now (c.args.count - c.loop.counter) c.loop.at (last_run c.loop.found) _ (omega arith) (omega (arith, c.loop.invariant.inside)) c.loop.invariant.read
