use Rattle.std.proofs.Common.{refl, subst}
use Rattle.gr_node.specs.Seen.{none_started}
use Rattle.gr_node.specs.Ending.{Serves}
use Rattle.gr_node.proofs.Courses.{none_opened}
use Rattle.gr_node.proofs.CourseEnds.{serves_bound, bound_all, with_course}
use Rattle.gr_node.proofs.service.serve.Goals as goal

pub returns-in-Err-clause-ran : goal.returns-in-Err-clause-ran
returns-in-Err-clause-ran g c =
    let t = c.args.topo.now in
    let hosted = c.args.hosted.now in
    let steps = c.args.steps.now in
    let before = g.P.Post.journal c.args.post.now in
    let after = g.P.Post.journal c.bind_all.new.post in
    let taken = g.K.Sink.taken c.args.sink.now in
    let lanes = g.D.Disk.lane_of c.args.disk.now in
    with_course t hosted steps c.args.turns g.P.Post.tells g.D.Disk.tells before after taken taken lanes lanes _
    (serves_bound t hosted c.requires.hosted (none_started t) (none_opened t hosted (none_started t) c.brokers.ensures.topology.sound refl) steps c.args.turns g.P.Post.tells g.D.Disk.tells
    before after taken lanes c.in-Err.fault c.in-Err.ensures.cause c.in-Err.ensures.bound)

pub returns-clause-ran : goal.returns-clause-ran
returns-clause-ran g c =
    let t = c.args.topo.now in
    let hosted = c.args.hosted.now in
    let before = g.P.Post.journal c.args.post.now in
    let after = g.P.Post.journal c.serve_bound.new.post in
    let taken = g.K.Sink.taken c.args.sink.now in
    let taken' = g.K.Sink.taken c.serve_bound.new.sink in
    let lanes = g.D.Disk.lane_of c.args.disk.now in
    let lanes' = g.D.Disk.lane_of c.serve_bound.new.disk in
    with_course t hosted c.args.steps.now c.args.turns g.P.Post.tells g.D.Disk.tells before after taken taken' lanes lanes' c.serve_bound.result
    (subst (λ steps. Serves t hosted steps c.args.turns g.P.Post.tells g.D.Disk.tells before after taken taken' lanes lanes' c.serve_bound.result) c.as_slice.ensures
    (c.serve_bound.ensures.serves before (λ tells. bound_all t hosted g.P.Post.tells before (g.P.Post.journal c.bind_all.new.post) _ c.in-Ok.ensures.bound tells)))
