use Rattle.std.proofs.Common.{◌++◌, ◌∙◌, ap}
use Rattle.gr_event.specs.Json.{event_text, json_text}
use Rattle.gr_event.proofs.Writing.{reads_back}
use Rattle.gr_event.proofs.event.Event.json.Goals as goal

pub returns-clause-reads_back : goal.returns-clause-reads_back
returns-clause-reads_back c =
    ap event_text (c.in_ok-json_into.ensures.text ∙ ap (λ t. t ++ json_text c.args.self.now) c.new-text.ensures) ∙ reads_back c.args.self.now c.json_into.ensures.event
