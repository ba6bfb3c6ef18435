use Rattle.std.proofs.Common.{◌∙◌}
use Rattle.gr_model.specs.NetOf.{net_of}
use Rattle.gr_node.proofs.FirstSteps.{left_next}
use Rattle.gr_node.proofs.schedule.next_after.Goals as goal

pub returns-clause-left : goal.returns-clause-left
returns-clause-left c = λ moment.
    c.next_request.ensures.same ∙ left_next (net_of c.args.site.now.topo.now) c.args.site.now.hosted.now c.args.steps.now c.args.next moment c.requires.first
