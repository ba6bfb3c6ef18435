-- The head, and the event behind it
use Rattle.gr_publog.proofs.Putting.{event_put}
use Rattle.gr_publog.proofs.fill.put_event.Goals as goal

pub returns : goal.returns
returns c =
    event_put c.args.bytes.now.items c.put_head.new.bytes.items c.extend_from_slice.new.self.items c.bytes.result.now c.args.entry.now.tick c.args.entry.now.number c.size.result c.args.entry.now.event c.in_ok-put_head.ensures c.in_ok-extend_from_slice.ensures.items c.bytes.ensures.bytes c.size.ensures.size
