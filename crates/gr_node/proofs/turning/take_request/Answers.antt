use Rattle.std.proofs.Common.{sym, ap, subst, map, List, arith}
use Rattle.gr_model.specs.NetOf.{net_of}
use Rattle.gr_node.specs.Seen.{seen}
use Rattle.gr_node.specs.Plan.{Act, calls, request_calls}
use Rattle.gr_node.specs.Lasting.{ActsKeep}
use Rattle.gr_node.proofs.FirstSteps.{none_next, publish_next, join_next}
use Rattle.gr_node.proofs.Lasting.{acts_same}
use Rattle.gr_node.proofs.Within.{went_nothing}
use Rattle.gr_node.proofs.turning.take_request.Goals as goal

pub returns-then-next-steps-clause-went : goal.returns-then-next-steps-clause-went
returns-then-next-steps-clause-went g c =
    let none = none_next (net_of c.args.site.now.topo.now) c.args.site.now.hosted.now c.args.steps.now c.args.next (omega arith) in
    went_nothing c.args.site.now.topo.now c.args.site.now.hosted.now g.P.Post.tells _ (seen c.args.node.now) _ _ (ap (λ xs. map calls (request_calls xs)) none)

pub returns-then-next-steps-clause-kept : goal.returns-then-next-steps-clause-kept
returns-then-next-steps-clause-kept g c = λ tells. acts_same c.args.site.now.topo.now c.args.site.now.hosted.now (seen c.args.node.now) _ (g.D.Disk.lane_of c.args.disk.now)

pub returns-in-Publish-clause-kept : goal.returns-in-Publish-clause-kept
returns-in-Publish-clause-kept g c = λ tells.
    subst (λ (acts : List Act). ActsKeep c.args.site.now.topo.now c.args.site.now.hosted.now (seen c.args.node.now) acts (g.D.Disk.lane_of c.args.disk.now) (g.D.Disk.lane_of c.publish.new.disk))
    (sym (publish_next (net_of c.args.site.now.topo.now) c.args.site.now.hosted.now c.args.steps.now c.args.next c.index-steps-next.result c.in-Publish.publisher c.in-Publish.number c.in-Publish.stop c.in-Publish.event
    c.if-next-steps.false c.index-steps-next.is c.in-Publish.is c.requires.first))
    (c.publish.ensures.kept tells)

pub returns-in-Join-clause-kept : goal.returns-in-Join-clause-kept
returns-in-Join-clause-kept g c = λ tells.
    subst (λ (acts : List Act). ActsKeep c.args.site.now.topo.now c.args.site.now.hosted.now (seen c.args.node.now) acts (g.D.Disk.lane_of c.args.disk.now) (g.D.Disk.lane_of c.join.new.disk))
    (sym (join_next (net_of c.args.site.now.topo.now) c.args.site.now.hosted.now c.args.steps.now c.args.next c.index-steps-next.result c.in-Join.subscriber c.in-Join.publisher
    c.if-next-steps.false c.index-steps-next.is c.in-Join.is c.requires.first))
    (c.join.ensures.kept tells)
