use Rattle.gr_event.proofs.Walking.{all_left, all_left_is}
use Rattle.gr_event.proofs.event.Event.pairs.Goals as goal

pub invariant_of-result : goal.invariant_of-result
invariant_of-result c = all_left c.bytes-bytes.result.now c.args.self.now c.bytes-bytes.ensures.event c.bytes-bytes.ensures.bytes

pub returns-clause-pairs : goal.returns-clause-pairs
returns-clause-pairs c = all_left_is c.bytes-bytes.result.now c.args.self.now c.bytes-bytes.ensures.event c.bytes-bytes.ensures.bytes
