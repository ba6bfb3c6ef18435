use Rattle.gr_out.proofs.Fronts.{front-take}
use Rattle.gr_client.proofs.telling.put.Goals as goal

pub returns-in-Err-clause-front : goal.returns-in-Err-clause-front
returns-in-Err-clause-front g c =
    let some = rw c.as_slice.ensures at c.in-Err.ensures.err in front-take _ _ c.args.line.now some.0 some.2
