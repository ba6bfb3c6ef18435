use Rattle.gr_model.proofs.NetOf.{net_is, net_is_orderly}
use Rattle.gr_model.proofs.topologies.every_topology_is_a_tree.Goals as goal

pub returns-clause-tree : goal.returns-clause-tree
returns-clause-tree c = net_is c.args.topology.now c.brokers.ensures.topology

pub returns-clause-orderly : goal.returns-clause-orderly
returns-clause-orderly c = net_is_orderly c.args.topology.now c.brokers.ensures.topology
