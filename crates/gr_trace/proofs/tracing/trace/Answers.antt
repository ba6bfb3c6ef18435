use Rattle.std.proofs.Common.{subst}
use Rattle.gr_node.proofs.CourseEnds.{bound_all}
use Rattle.gr_trace.specs.Wrote.{RunTraced}
use Rattle.gr_trace.proofs.TracedStart.{traced_bound, with_course}
use Rattle.gr_trace.proofs.tracing.trace.Goals as goal

pub returns-in-Err-clause-ran : goal.returns-in-Err-clause-ran
returns-in-Err-clause-ran g c =
    let t = c.args.topo.now in
    let hosted = c.args.hosted.now in
    let steps = c.args.steps.now in
    let before = g.P.Post.journal c.args.post.now in
    let after = g.P.Post.journal c.bind_all.new.post in
    let taken = g.K.Sink.taken c.args.sink.now in
    let lanes = g.D.Disk.lane_of c.args.disk.now in
    with_course t hosted steps c.args.turns g.P.Post.tells g.D.Disk.tells before after taken taken lanes lanes _
    (traced_bound t hosted c.requires.hosted c.brokers.ensures.topology steps c.args.turns g.P.Post.tells g.D.Disk.tells before after taken lanes c.in-Err.fault c.in-Err.ensures.cause c.in-Err.ensures.bound)

pub returns-clause-ran : goal.returns-clause-ran
returns-clause-ran g c =
    let t = c.args.topo.now in
    let hosted = c.args.hosted.now in
    let before = g.P.Post.journal c.args.post.now in
    let after = g.P.Post.journal c.trace_bound.new.post in
    let taken = g.K.Sink.taken c.args.sink.now in
    let taken' = g.K.Sink.taken c.trace_bound.new.sink in
    let lanes = g.D.Disk.lane_of c.args.disk.now in
    let lanes' = g.D.Disk.lane_of c.trace_bound.new.disk in
    with_course t hosted c.args.steps.now c.args.turns g.P.Post.tells g.D.Disk.tells before after taken taken' lanes lanes' c.trace_bound.result
    (subst (λ steps. RunTraced {T = Unit {0}} t hosted steps c.args.turns g.P.Post.tells g.D.Disk.tells before after taken taken' lanes lanes' c.trace_bound.result) c.as_slice.ensures
    (c.trace_bound.ensures.traces before (λ tells. bound_all t hosted g.P.Post.tells before (g.P.Post.journal c.bind_all.new.post) _ c.in-Ok.ensures.bound tells)))
