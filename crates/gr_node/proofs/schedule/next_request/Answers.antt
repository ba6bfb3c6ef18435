use Rattle.std.proofs.Common.{arith}
use Rattle.gr_model.specs.NetOf.{net_of}
use Rattle.gr_node.proofs.FirstSteps.{passed_over}
use Rattle.gr_node.proofs.schedule.next_request.Goals as goal

pub steps-preserved : goal.steps-preserved
steps-preserved c = passed_over (net_of c.args.site.now.topo.now) c.args.site.now.hosted.now c.args.steps.now c.steps.at c.args.from c.index-steps-at.result (omega arith) c.index-steps-at.is
    (c.is_request.ensures.none c.if-is_request.false) c.steps.invariant
