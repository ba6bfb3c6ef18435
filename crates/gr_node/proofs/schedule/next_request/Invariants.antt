use Rattle.std.proofs.Common.{◌≡◌, drop}
use Rattle.gr_model.specs.NetOf.{net_of}
use Rattle.gr_model.specs.Arrivals.{requests_of}
use Rattle.gr_node.proofs.schedule.next_request.Given as goal

-- no step that was passed over is a request here
abbrev pub invariant-steps : goal.invariant-steps
invariant-steps l =
    requests_of (net_of l.site.topo.now) l.site.hosted.now (drop l.at l.steps) ≡ requests_of (net_of l.site.topo.now) l.site.hosted.now (drop l.from l.steps)
