-- A text that an event prints reads back as the event
use Rattle.std.proofs.Common.{◌∙◌, ap}
use Rattle.gr_event.specs.Json.{event_text}
use Rattle.gr_event.proofs.Writing.{reads_back}
use Rattle.gr_event.proofs.compact.from_guess.Goals as goal

pub returns-then-prints : goal.returns-then-prints
returns-then-prints c = ap event_text (c.prints.ensures.text c.if-prints.true) ∙ reads_back c.in-Some-2.event c.prints.ensures.event
