use Rattle.gr_event.proofs.SameEvent.{same_bytes-tells}
use Rattle.gr_event.proofs.event.Event.same.Goals as goal

pub returns : goal.returns
returns c = same_bytes-tells c.eq.result c.bytes.result.now c.bytes-2.result.now c.args.self.now c.args.other.now c.bytes.ensures.bytes c.bytes-2.ensures.bytes c.bytes.ensures.event c.bytes-2.ensures.event c.eq.ensures
