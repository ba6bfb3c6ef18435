use Rattle.std.proofs.Common.{◌≡◌, ◌++◌, ◌-◌, length, nat_eq}
use Rattle.std.specs.List.{filter}
use Rattle.gr_topo.specs.Topology.{depth_at}
use Rattle.gr_model.specs.Net.{numbers_from}
use Rattle.gr_model.specs.NetOf.{net_of}
use Rattle.gr_model.specs.World.{at_depth}
use Rattle.gr_world.proofs.order.put_depth.Given as goal

abbrev pub invariant-brokers : goal.invariant-brokers
invariant-brokers l = l.found ++ filter (λ b. nat_eq (depth_at l.topology l.p b) l.depth) (numbers_from l.b (length l.topology.brokers - l.b)) ≡ l.fn.found ++ at_depth (net_of l.topology) l.p l.depth
