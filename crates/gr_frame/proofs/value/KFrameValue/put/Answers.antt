-- A value of one byte fills a slice of one byte
use Rattle.std.proofs.Common.{ap}
use Rattle.gr_frame.specs.Bytes.{known_bytes}
use Rattle.gr_frame.proofs.Putting.{one_byte, event_room}
use Rattle.gr_frame.proofs.value.KFrameValue.put.Goals as goal

pub put_event-requires : goal.put_event-requires
put_event-requires c = event_room c.args.into.now c.args.self.now c.in-D.event c.in-D.is c.requires

pub returns-in-S-clause-bytes : goal.returns-in-S-clause-bytes
returns-in-S-clause-bytes c = one_byte c.args.into.now (known_bytes c.args.self.now) 1 c.requires (ap known_bytes c.in-S.is)

pub returns-in-F-clause-bytes : goal.returns-in-F-clause-bytes
returns-in-F-clause-bytes c = one_byte c.args.into.now (known_bytes c.args.self.now) 3 c.requires (ap known_bytes c.in-F.is)
