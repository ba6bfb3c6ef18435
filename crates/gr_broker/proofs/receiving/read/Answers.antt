use Rattle.std.proofs.Common.{sym}
use Rattle.gr_broker.proofs.Receipts.{body_of}
use Rattle.gr_broker.proofs.receiving.read.Goals as goal

pub returns-in-Ok-clause-read : goal.returns-in-Ok-clause-read
returns-in-Ok-clause-read c = sym c.in-Ok.ensures

pub returns-in-Ok-clause-body : goal.returns-in-Ok-clause-body
returns-in-Ok-clause-body c = body_of c.args.bytes.now c.in-Ok.frame (λ i. (c.type_inv.bytes i).fits) c.in-Ok.ensures
