use Rattle.gr_model_calls.proofs.topology.BlankNet.{net0_is}
use Rattle.gr_model_theorems.proofs.theorems.net0_is_a_tree.Goals as goal

pub returns : goal.returns
returns c = net0_is
