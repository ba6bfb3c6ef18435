use Rattle.gr_model.proofs.BlankOf.{blank_net}
use Rattle.gr_model.proofs.topologies.the_blank_topology.Goals as goal

pub returns : goal.returns
returns c = blank_net
