use Rattle.std.proofs.Common.{arith, ◌-◌}
use Rattle.gr_frame.proofs.Loop.{goes_on_last, apart_last}
use Rattle.gr_frame.proofs.reading.goes_on.Goals as goal

pub returns-then-run-first : goal.returns-then-run-first
returns-then-run-first g c =
    goes_on_last g.V.FrameValue.form.same c.args.found.now (c.len-count.result - 1) c.args.first c.run-run.result.now c.args.value.now c.same.result g.met.V.FrameValue.decides
    c.run-run.ensures.run (omega (arith, c.len-count.ensures.len)) c.if-run-first.true c.same.ensures.0 c.same.ensures.1

pub returns-else-run-first : goal.returns-else-run-first
returns-else-run-first g c =
    apart_last g.V.FrameValue.form.same c.args.found.now (c.len-count.result - 1) c.args.first c.run-run.result.now c.args.value.now
    c.run-run.ensures.run (omega (arith, c.len-count.ensures.len)) c.if-run-first.false
