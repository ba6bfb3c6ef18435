use Rattle.std.proofs.Common.{◌≡◌, ◌<◌, length}
use Rattle.gr_topo.specs.Topology.{passes_by, depth_at}
use Rattle.gr_topo.proofs.topology.Topology.passes.Given as goal

abbrev pub invariant-up : goal.invariant-up
invariant-up l = record {
  within : l.here < length l.self.brokers;
  same : passes_by l.self l.p l.b l.here ≡ passes_by l.self l.p l.b l.from;
}

abbrev pub decreases-up : goal.decreases-up
decreases-up l = depth_at l.self l.p l.here
