-- Bytes that decode to an event are those of an event
use Rattle.std.proofs.Common.{rules}
use Rattle.gr_event.specs.Decode.{event_decoded}
use Rattle.gr_event.specs.Form.{TellsEvent}
use Rattle.gr_event.proofs.Walking.{form_told}
use Rattle.gr_event.proofs.decode.fields_of.Goals as goal

pub returns-clause-event : goal.returns-clause-event
unfolding event_decoded
returns-clause-event c =
    let told : TellsEvent c.pairs_at.result (event_decoded c.args.bytes.now) = search rules in
    form_told c.pairs_at.result c.args.bytes.now (λ i. (c.type_inv.bytes i).fits) told
