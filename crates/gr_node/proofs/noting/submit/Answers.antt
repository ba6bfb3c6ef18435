use Rattle.std.proofs.Common.{[], ◌∷◌}
use Rattle.gr_model.specs.Arrivals.{Publish}
use Rattle.gr_node.specs.Seen.{seen}
use Rattle.gr_node.specs.Plan.{publishes, calls, answers}
use Rattle.gr_node.proofs.Keeping.{if_ok}
use Rattle.gr_node.proofs.Lasting.{acts_front}
use Rattle.gr_node.proofs.Wending.{all_made, went_on, went_cut, went_answers, turn_not_post, answer_fault}
use Rattle.gr_node.proofs.noting.submit.Goals as goal

pub returns-in-Ok-clause-went : goal.returns-in-Ok-clause-went
returns-in-Ok-clause-went g c =
    let t = c.args.site.now.topo.now in
    let hosted = c.args.site.now.hosted.now in
    let x : Publish = (c.args.p, (c.args.number, c.args.event.now)) in
    let n = seen c.publish.new.node in
    went_on t hosted g.P.Post.tells (calls (publishes x) ∷ []) (answers x ∷ []) (seen c.args.node.now) n n _ _ _ c.answer.result
    (all_made t hosted g.P.Post.tells (calls (publishes x) ∷ []) (seen c.args.node.now) n _ _ _ c.in-Ok.ensures.went)
    (went_answers t hosted g.P.Post.tells x n _ _ _ _ c.answer.result (c.answer.ensures.sent c.args.event.now) c.answer.ensures.unsent c.answer.ensures.cause)

pub returns-in-Ok-clause-serving : goal.returns-in-Ok-clause-serving
returns-in-Ok-clause-serving g c = if_ok c.answer.result c.in-Ok.ensures.serving

pub returns-in-Ok-clause-cause : goal.returns-in-Ok-clause-cause
returns-in-Ok-clause-cause g c = answer_fault c.answer.result c.answer.ensures.cause

pub returns-in-Err-clause-went : goal.returns-in-Err-clause-went
returns-in-Err-clause-went g c =
    let t = c.args.site.now.topo.now in
    let hosted = c.args.site.now.hosted.now in
    let x : Publish = (c.args.p, (c.args.number, c.args.event.now)) in
    went_cut t hosted g.P.Post.tells (calls (publishes x) ∷ []) (answers x ∷ []) _ _ _ _ c.in-Err.fault (turn_not_post c.in-Err.fault c.in-Err.ensures.cause) c.in-Err.ensures.went

pub returns-in-Ok-clause-kept : goal.returns-in-Ok-clause-kept
returns-in-Ok-clause-kept g c = λ tells.
    let x : Publish = (c.args.p, (c.args.number, c.args.event.now)) in
    acts_front c.args.site.now.topo.now c.args.site.now.hosted.now (seen c.args.node.now) (calls (publishes x) ∷ []) (answers x ∷ []) (g.D.Disk.lane_of c.args.disk.now) (g.D.Disk.lane_of c.publish.new.disk) (c.in-Ok.ensures.kept tells)

pub returns-in-Err-clause-kept : goal.returns-in-Err-clause-kept
returns-in-Err-clause-kept g c = λ tells.
    let x : Publish = (c.args.p, (c.args.number, c.args.event.now)) in
    acts_front c.args.site.now.topo.now c.args.site.now.hosted.now (seen c.args.node.now) (calls (publishes x) ∷ []) (answers x ∷ []) (g.D.Disk.lane_of c.args.disk.now) (g.D.Disk.lane_of c.publish.new.disk) (c.in-Err.ensures.kept tells)
