use Rattle.gr_subend.proofs.Handing.{moves}
use Rattle.gr_subend.proofs.subend.Subend.move_on.Goals as goal

pub returns-clause-horizon : goal.returns-clause-horizon
returns-clause-horizon c =
    moves c.self.inside.horizon c.args.self.now c.horizon_from-self-inside.result c.args.know.now.runs c.self.view_is c.horizon_from-self-inside.ensures.horizon
