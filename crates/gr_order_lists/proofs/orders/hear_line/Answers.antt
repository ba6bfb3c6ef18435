use Rattle.std.proofs.Common.{◌≡◌, ◌<◌, ◌≤◌, ◌∙◌, sym, ap, length, get_or, arith}
use Rattle.gr_order_lists.proofs.PlacedLists.{none_heard, past_heard, beyond_heard, place_heard, placed_set}
use Rattle.gr_order_lists.proofs.Taking.{on_ok}
use Rattle.gr_order_lists.proofs.orders.hear_line.Goals as goal

pub returns-in_default-clause-heard : goal.returns-in_default-clause-heard
returns-in_default-clause-heard c = none_heard c.args.lists.now.items c.args.line.now (sym c.subject.ensures ∙ c.in_default.is)

pub returns-then-at-places-clause-heard : goal.returns-then-at-places-clause-heard
returns-then-at-places-clause-heard c =
    past_heard c.args.lists.now.items c.args.places.now c.args.line.now c.in-Some.subscriber c.requires (sym c.subject.ensures ∙ c.in-Some.is) (omega (arith, c.from-at.ensures, c.if-at-places.true))

pub returns-then-place-len-clause-heard : goal.returns-then-place-len-clause-heard
returns-then-place-len-clause-heard c =
    let same : get_or c.args.places.now c.in-Some.subscriber 0 ≡ c.from-place.result = ap (λ i. get_or c.args.places.now i 0) (sym c.from-at.ensures) ∙ sym c.from-place.ensures in
    beyond_heard c.args.lists.now.items c.args.places.now c.args.line.now c.in-Some.subscriber c.requires (sym c.subject.ensures ∙ c.in-Some.is) (omega (arith, same, c.if-place-len.true, c.len.ensures))

pub returns-clause-heard : goal.returns-clause-heard
returns-clause-heard c =
    let same : get_or c.args.places.now c.in-Some.subscriber 0 ≡ c.from-place.result = ap (λ i. get_or c.args.places.now i 0) (sym c.from-at.ensures) ∙ sym c.from-place.ensures in
    on_ok c.hear.result
    (λ e. place_heard c.args.lists.now.items c.args.places.now c.args.line.now c.in-Some.subscriber c.from-place.result c.index_mut.result.now c.hear.new.self c.requires (sym c.subject.ensures ∙ c.in-Some.is) same
    (omega (arith, c.if-place-len.false, c.len.ensures)) c.index_mut.ensures.value e)
    c.hear.ensures.heard

pub returns-clause-placed : goal.returns-clause-placed
returns-clause-placed c =
    placed_set 0 c.from-place.result c.args.lists.now.items c.args.places.now c.hear.new.self c.index_mut.result.now c.requires (c.hear.ensures.same ∙ ap (λ o. o.subscriber) c.index_mut.ensures.value)
