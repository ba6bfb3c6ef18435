use Rattle.gr_node.proofs.CourseEnds.{serves_memory}
use Rattle.gr_node.proofs.service.serve_bound.Goals as goal

pub returns-in-Err-clause-serves : goal.returns-in-Err-clause-serves
returns-in-Err-clause-serves g c = λ journal posted.
    serves_memory _ c.args.site.now.topo.now c.args.site.now.hosted.now c.args.steps.now c.args.turns g.P.Post.tells g.D.Disk.tells journal (g.P.Post.journal c.args.post.now) (g.K.Sink.taken c.args.sink.now) (g.D.Disk.lane_of c.args.disk.now)
    c.requires.asked.brokers c.brokers.ensures.topology.sound posted

pub returns-in-Err-new-clause-serves : goal.returns-in-Err-new-clause-serves
returns-in-Err-new-clause-serves g c = λ journal posted.
    serves_memory _ c.args.site.now.topo.now c.args.site.now.hosted.now c.args.steps.now c.args.turns g.P.Post.tells g.D.Disk.tells journal (g.P.Post.journal c.args.post.now) (g.K.Sink.taken c.args.sink.now) (g.D.Disk.lane_of c.args.disk.now)
    c.requires.asked.brokers c.brokers.ensures.topology.sound posted
