use Rattle.std.proofs.Common.{sym, ◌∙◌}
use Rattle.gr_model.specs.NetOf.{net_of}
use Rattle.gr_node.proofs.FirstSteps.{none_here, join_elsewhere}
use Rattle.gr_node.proofs.schedule.is_request.Goals as goal

pub returns-in-Publish-clause-none : goal.returns-in-Publish-clause-none
returns-in-Publish-clause-none c = λ e.
    none_here (net_of c.args.site.now.topo.now) c.args.site.now.hosted.now c.args.line.now c.in-Publish.publisher _ _ _ c.in-Publish.is
    (sym c.is_scheduled.ensures ∙ e)

pub returns-in-Join-clause-none : goal.returns-in-Join-clause-none
returns-in-Join-clause-none c = λ e.
    join_elsewhere (net_of c.args.site.now.topo.now) c.args.site.now.hosted.now c.args.line.now _ c.in-Join.publisher c.in-Join.is
    (sym c.is_hosted.ensures ∙ e)
