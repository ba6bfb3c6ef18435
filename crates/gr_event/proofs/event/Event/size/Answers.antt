use Rattle.std.proofs.Common.{arith}
use Rattle.gr_event.proofs.Walking.{length_of_event}
use Rattle.gr_event.proofs.event.Event.size.Goals as goal

pub returns-clause-size : goal.returns-clause-size
returns-clause-size c = length_of_event c.bytes.result.now c.args.self.now c.bytes.ensures.bytes

pub returns-clause-short : goal.returns-clause-short
returns-clause-short c = omega (arith, length_of_event c.bytes.result.now c.args.self.now c.bytes.ensures.bytes, c.bytes.ensures.event.short)
