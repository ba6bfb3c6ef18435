use Rattle.gr_order.proofs.Keeping.{took}
use Rattle.gr_order.proofs.merge.Merge.take.Goals as goal

pub returns-clause-ok : goal.returns-clause-ok
returns-clause-ok c =
    took c.self.inside.waiting.entries c.insert.new.self.entries c.self.inside.horizons.items c.args.self.now c.args.item c.self.view_is c.in_ok-insert.ensures.entries c.requires
