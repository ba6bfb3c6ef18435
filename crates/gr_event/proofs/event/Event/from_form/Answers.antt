-- Bytes that decode to an event are its bytes
use Rattle.std.proofs.Common.{◌∙◌, Ok, ap, sym}
use Rattle.gr_event.proofs.Walking.{is_read}
use Rattle.gr_event.proofs.event.Event.from_form.Goals as goal

pub returns-in_ok-of_bytes-in-Ok : goal.returns-in_ok-of_bytes-in-Ok
returns-in_ok-of_bytes-in-Ok c =
    let told = c.in-Ok.ensures.told in
    told.1 ∙ ap (λ e. Ok e) (sym (c.in_ok-of_bytes-in-Ok.ensures ∙ is_read c.args.bytes.now told.0 told.1))
