-- What is put prints the event's tokens
use Rattle.std.proofs.Common.{◌++◌, ap, ◌∙◌}
use Rattle.gr_event.proofs.Walking.{behind_count}
use Rattle.gr_event.proofs.Writing.{prints}
use Rattle.gr_event.proofs.event.Event.json_into.Goals as goal

pub returns-in-Ok-clause-text : goal.returns-in-Ok-clause-text
returns-in-Ok-clause-text c =
    c.in-Ok.ensures.ok c.args.self.now (behind_count c.bytes.result.now c.args.self.now c.bytes.ensures.event c.bytes.ensures.bytes)
    ∙ ap (λ xs. c.args.into.now ++ xs) (prints c.args.self.now)
