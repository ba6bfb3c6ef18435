-- All late ones may still join
use Rattle.gr_publog.proofs.Entering.{held_first}
use Rattle.gr_publog.proofs.footing.Footing.first.Goals as goal

pub new-requires : goal.new-requires
new-requires c = rw (c.new-state.ensures, c.new-joins.ensures) (held_first c.args.late.now 0 c.requires)
