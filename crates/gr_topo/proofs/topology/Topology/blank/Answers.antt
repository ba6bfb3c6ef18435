use Rattle.std.proofs.Common.{rules}
use Rattle.gr_topo.proofs.Blank.{is_blank}
use Rattle.gr_topo.proofs.topology.Topology.blank.Goals as goal

pub new-requires-3 : goal.new-requires-3
new-requires-3 c = is_blank _ _ _ _ _ _ _ _ _ _ _ (search rules) (search rules) (search rules) (search rules) (search rules) (search rules) (search rules) (search rules) (search rules) (search rules) (search rules)
