use Rattle.gr_node.proofs.Keeping.{if_ok}
use Rattle.gr_node.proofs.ordering.put_heard.Goals as goal

pub returns-in-Ok-clause-heard : goal.returns-in-Ok-clause-heard
returns-in-Ok-clause-heard g c = if_ok c.put_all.result c.in-Ok.ensures
