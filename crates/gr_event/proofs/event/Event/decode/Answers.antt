-- Bytes that decode to an event are its bytes, and are kept as they are
use Rattle.std.proofs.Common.{◌∙◌, Ok, ap, sym}
use Rattle.gr_event.specs.Event.{event_bytes}
use Rattle.gr_event.proofs.Told.{only_its_bytes}
use Rattle.gr_event.proofs.Walking.{is_read}
use Rattle.gr_event.proofs.event.Event.decode.Goals as goal

pub returns-clause-gives : goal.returns-clause-gives
returns-clause-gives c =
    let told = c.in_ok-fields_of.ensures.told in
    told.1 ∙ ap (λ e. Ok e) (sym (c.in_ok-of_bytes.ensures ∙ is_read c.args.bytes.now told.0 told.1))

pub returns-clause-spelled : goal.returns-clause-spelled
returns-clause-spelled c =
    let told = c.in_ok-fields_of.ensures.told in
    only_its_bytes c.args.bytes.now told.0 (λ i. (c.type_inv.bytes i).fits) told.1
    ∙ ap (λ e. event_bytes e) (sym (c.in_ok-of_bytes.ensures ∙ is_read c.args.bytes.now told.0 told.1))
