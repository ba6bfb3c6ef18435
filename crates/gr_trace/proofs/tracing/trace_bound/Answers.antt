use Rattle.gr_trace.proofs.TracedStart.{traced_memory}
use Rattle.gr_trace.proofs.tracing.trace_bound.Goals as goal

-- There was no memory for the node, for what is gathered, or for the page.

pub returns-in-Err-clause-traces : goal.returns-in-Err-clause-traces
returns-in-Err-clause-traces g c = λ journal posted.
    traced_memory c.args.site.now.topo.now c.args.site.now.hosted.now c.args.steps.now c.args.turns g.P.Post.tells g.D.Disk.tells journal (g.P.Post.journal c.args.post.now) (g.K.Sink.taken c.args.sink.now) (g.D.Disk.lane_of c.args.disk.now)
    c.requires.asked.brokers c.brokers.ensures.topology posted

pub returns-in-Err-new-clause-traces : goal.returns-in-Err-new-clause-traces
returns-in-Err-new-clause-traces g c = λ journal posted.
    traced_memory c.args.site.now.topo.now c.args.site.now.hosted.now c.args.steps.now c.args.turns g.P.Post.tells g.D.Disk.tells journal (g.P.Post.journal c.args.post.now) (g.K.Sink.taken c.args.sink.now) (g.D.Disk.lane_of c.args.disk.now)
    c.requires.asked.brokers c.brokers.ensures.topology posted

pub returns-in-Err-new-2-clause-traces : goal.returns-in-Err-new-2-clause-traces
returns-in-Err-new-2-clause-traces g c = λ journal posted.
    traced_memory c.args.site.now.topo.now c.args.site.now.hosted.now c.args.steps.now c.args.turns g.P.Post.tells g.D.Disk.tells journal (g.P.Post.journal c.args.post.now) (g.K.Sink.taken c.args.sink.now) (g.D.Disk.lane_of c.args.disk.now)
    c.requires.asked.brokers c.brokers.ensures.topology posted
