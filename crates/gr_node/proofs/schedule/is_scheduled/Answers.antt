use Rattle.std.proofs.Common.{◌∙◌}
use Rattle.gr_topo.specs.Topology.{client_of}
use Rattle.gr_model.specs.NetOf.{net_of}
use Rattle.gr_model.specs.Arrivals.{is_hosted}
use Rattle.gr_node.proofs.FirstSteps.{with_client, without_client}
use Rattle.gr_node.proofs.schedule.is_scheduled.Goals as goal

pub returns-in-Some : goal.returns-in-Some
returns-in-Some c =
    let t = c.args.site.now.topo.now in
    with_client (is_hosted (net_of t) c.args.site.now.hosted.now c.args.p) (client_of t c.args.p) _ c.in-Some.ensures

pub returns-in-None : goal.returns-in-None
returns-in-None c =
    let t = c.args.site.now.topo.now in
    c.is_hosted.ensures
    ∙ without_client (is_hosted (net_of t) c.args.site.now.hosted.now c.args.p) (client_of t c.args.p) c.in-None.ensures
