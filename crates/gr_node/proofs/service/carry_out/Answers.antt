use Rattle.std.proofs.Common.{[], subst}
use Rattle.gr_node.specs.Seen.{seen}
use Rattle.gr_node.specs.Went.{outside}
use Rattle.gr_node.specs.Ending.{RanWith}
use Rattle.gr_node.proofs.Ended.{ran_wrote, end_before}
use Rattle.gr_node.proofs.service.carry_out.Goals as goal

pub returns-clause-ran : goal.returns-clause-ran
returns-clause-ran g c =
    let t = c.args.site.now.topo.now in
    let hosted = c.args.site.now.hosted.now in
    let before = c.run_and_show-done in
    subst (λ held. RanWith t hosted g.P.Post.tells g.D.Disk.tells c.args.steps.now c.args.turns (seen c.args.node.now) (seen before.new.node)
    (outside (g.K.Sink.taken c.args.sink.now) held (g.P.Post.journal c.args.post.now)) (outside (g.K.Sink.taken c.finish.new.sink) [] (g.P.Post.journal before.new.post)) (g.D.Disk.lane_of c.args.disk.now) (g.D.Disk.lane_of before.new.disk) c.finish.result)
    c.requires.can.written
    (ran_wrote t hosted g.P.Post.tells g.D.Disk.tells (g.D.Disk.lane_of c.args.disk.now) (g.D.Disk.lane_of before.new.disk) c.args.steps.now c.args.turns (seen c.args.node.now) (seen before.new.node) (outside (g.K.Sink.taken c.args.sink.now) c.args.page.now.held (g.P.Post.journal c.args.post.now))
    (g.K.Sink.taken before.new.sink) (g.K.Sink.taken c.finish.new.sink) before.new.page.held c.finish.new.page.held (g.P.Post.journal before.new.post) before.result c.finish.result
    before.ensures.at_post before.ensures.ran c.finish.ensures.wrote)

pub returns-clause-serving : goal.returns-clause-serving
returns-clause-serving g c = λ end. c.run_and_show-done.ensures.serving (end_before _ _ _ _ _ _ _ c.finish.ensures.wrote end)
