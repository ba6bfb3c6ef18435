use Rattle.std.proofs.Common.{take, drop, ap, ◌∙◌, flat_map}
use Rattle.gr_out.specs.Bytes.{with_more}
use Rattle.gr_model.specs.Orders.{fed, orders_of}
use Rattle.gr_node.specs.Seen.{seen, text_of}
use Rattle.gr_node.specs.Starting.{start_lines}
use Rattle.gr_node.proofs.Courses.{some_opened, all_opened, all_of, told_opening, front_opening}
use Rattle.gr_node.proofs.CourseEnds.{serves_ran, serves_failed, next_of}
use Rattle.gr_node.proofs.service.serve_with.Goals as goal

pub returns-in-Ok-clause-serves : goal.returns-in-Ok-clause-serves
returns-in-Ok-clause-serves g c = λ journal posted.
    let t = c.args.site.now.topo.now in
    let hosted = c.args.site.now.hosted.now in
    let n = seen c.open_hosted.new.node in
    let before = c.in-Ok.ensures in
    let taken = g.K.Sink.taken c.args.sink.now in
    let opening = g.K.Sink.taken c.open_hosted.new.sink in
    let all = all_opened _ t hosted n _ _ _ before.started before.offers before.now before.count c.brokers.ensures.topology.sound before.started.whole in
    serves_ran _ t hosted c.requires.asked.brokers n all c.args.steps.now c.requires.asked.lines c.args.turns g.P.Post.tells g.D.Disk.tells
    journal (g.P.Post.journal c.args.post.now) (g.P.Post.journal c.carry_out.new.post) taken opening (g.K.Sink.taken c.carry_out.new.sink)
    (g.D.Disk.lane_of c.args.disk.now) (g.D.Disk.lane_of c.open_hosted.new.disk) (g.D.Disk.lane_of c.carry_out.new.disk) c.carry_out.result (seen c.carry_out.new.node)
    c.stands_read.ensures c.frames_pass_the_log.ensures.log c.frames_pass_the_log.ensures.rest
    (before.started.heard ∙ ap (λ bs. fed (orders_of t) (flat_map (start_lines t n) bs)) (all_of hosted before.started.made before.started.whole))
    (told_opening _ t hosted n taken opening c.args.page.now.held _ before.started c.requires.empty tt
    ∙ ap (λ bs. with_more taken (text_of t (flat_map (start_lines t n) bs))) (all_of hosted before.started.made before.started.whole))
    posted c.carry_out.ensures.ran
    before.found (λ end. (c.carry_out.ensures.serving end).set) (λ h end. (c.carry_out.ensures.serving end).stands h) (λ h lane here. c.carry_out.ensures.keeps.others h lane here ∙ before.others h lane here) before.kept c.carry_out.ensures.keeps.never_damaged

pub returns-in-Err-clause-serves : goal.returns-in-Err-clause-serves
returns-in-Err-clause-serves g c = λ journal posted.
    let t = c.args.site.now.topo.now in
    let hosted = c.args.site.now.hosted.now in
    let n = seen c.open_hosted.new.node in
    let before = c.in-Err.ensures in
    let s = before.started in
    let taken = g.K.Sink.taken c.args.sink.now in
    let opening = g.K.Sink.taken c.open_hosted.new.sink in
    serves_failed _ t hosted c.requires.asked.brokers (take s.made hosted) (drop s.made hosted) n (some_opened _ t hosted n _ _ _ s before.offers before.now before.count c.brokers.ensures.topology.sound) c.args.steps.now c.args.turns g.P.Post.tells g.D.Disk.tells
    journal (g.P.Post.journal c.args.post.now) taken opening (g.D.Disk.lane_of c.args.disk.now) (g.D.Disk.lane_of c.open_hosted.new.disk) c.in-Err.fault
    before.never_post (next_of t hosted n _ _ c.in-Err.fault s)
    (told_opening _ t hosted n taken opening c.args.page.now.held _ s c.requires.empty)
    (front_opening _ t hosted n taken opening c.args.page.now.held c.in-Err.fault s c.requires.empty)
    posted before.found before.damaged before.others before.kept
