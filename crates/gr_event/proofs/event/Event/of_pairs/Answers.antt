-- The bytes that were written are those of the pairs
use Rattle.std.proofs.Common.{◌≡◌, ◌∙◌, ap, arith, subst, IfOk}
use Rattle.std.proofs.lemmas.List.{take_at}
use Rattle.gr_event.specs.Event.{event_bytes}
use Rattle.gr_event.specs.Form.{event_of}
use Rattle.gr_event.proofs.Walking.{are_of_event, of_its_bytes, length_of_event}
use Rattle.gr_event.proofs.event.Event.of_pairs.Goals as goal

pub of_bytes-requires : goal.of_bytes-requires
of_bytes-requires c =
    let e = c.args.pairs.items in
    let written : c.put_event.new.into ≡ event_bytes e = c.put_event.ensures ∙ ap event_bytes c.deref-2.ensures.value in
    are_of_event _ e c.requires (c.deref-3.ensures.value ∙ take_at _ _ _ (omega (arith, length_of_event c.put_event.new.into e written, c.in_ok-bytes.ensures.len, c.size_of_pairs.ensures.size)) ∙ written)

pub returns : goal.returns
returns c =
    let e = c.args.pairs.items in
    let written : c.put_event.new.into ≡ event_bytes e = c.put_event.ensures ∙ ap event_bytes c.deref-2.ensures.value in
    let is = c.deref-3.ensures.value ∙ take_at _ _ _ (omega (arith, length_of_event c.put_event.new.into e written, c.in_ok-bytes.ensures.len, c.size_of_pairs.ensures.size)) ∙ written in
    subst (λ l. IfOk c.of_bytes.result (λ k. k ≡ l)) (ap event_of is ∙ of_its_bytes e c.requires) c.of_bytes.ensures
