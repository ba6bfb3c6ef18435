-- The text is what the event's tokens print
use Rattle.std.proofs.Common.{arith}
use Rattle.gr_event.proofs.Walking.{behind_count}
use Rattle.gr_event.proofs.Found.{found_all}
use Rattle.gr_event.proofs.event.Event.prints.Goals as goal

pub returns-in-Some-empty-clause-text : goal.returns-in-Some-empty-clause-text
returns-in-Some-empty-clause-text c = λ _.
    let e = c.args.self.now in
    found_all e c.args.text.now c.in-Some-empty.field-0.now (omega (arith, c.in-Some-empty.len_below)) (c.in-Some-empty.ensures e (behind_count c.bytes.result.now e c.bytes.ensures.event c.bytes.ensures.bytes))
