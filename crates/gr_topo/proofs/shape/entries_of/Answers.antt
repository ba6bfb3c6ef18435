use Rattle.std.proofs.Common.{◌≡◌, ◌∙◌, ◌+◌, sym, ap, arith, length, drop}
use Rattle.toml.specs.View.{view}
use Rattle.gr_topo.specs.Gives.{walk}
use Rattle.gr_topo.specs.Seen.{seen_items}
use Rattle.gr_topo.specs.Draft.{EntryLists, with_place, with_entry}
use Rattle.gr_topo.specs.Shape.{entry_in, one_entry}
use Rattle.gr_topo.proofs.Faults.{fails_as}
use Rattle.gr_topo.proofs.Walked.{items_more, items_refused, items_end, one_entry_ok, one_entry_err, entry_pushed}
use Rattle.gr_topo.proofs.shape.entries_of.Goals as goal

pub returns-in-Err : goal.returns-in-Err
returns-in-Err c =
    let found : EntryLists = record { names = c.loop-value.names.items; brokers = c.loop-value.brokers.items; filters = c.loop-value.texts.items; late = c.loop-value.late.items; totals = c.loop-value.totals.items } in
    fails_as c.in-Err.fault (entry_in c.args.key.now c.args.filters (view c.value-item.result)) _
    (λ x e. sym c.loop-value.invariant ∙ items_refused (one_entry c.args.key.now c.args.filters) found x c.args.values.now c.loop-value.value-index c.value-item.result c.loop-value-test.true c.value-item.is
    (one_entry_err c.args.key.now c.args.filters found (view c.value-item.result) x e))
    c.in-Err.ensures

pub loop-value-preserved : goal.loop-value-preserved
loop-value-preserved c =
    let found : EntryLists = record { names = c.loop-value.names.items; brokers = c.loop-value.brokers.items; filters = c.loop-value.texts.items; late = c.loop-value.late.items; totals = c.loop-value.totals.items } in
    let step = items_more (one_entry c.args.key.now c.args.filters) found (with_entry found c.in-Ok.entry) c.args.values.now c.loop-value.value-index c.value-item.result c.loop-value-test.true c.value-item.is
    (one_entry_ok c.args.key.now c.args.filters found (view c.value-item.result) c.in-Ok.entry c.in-Ok.ensures) in
    let place : c.len-place.result ≡ length c.loop-value.names.items = omega (arith, c.len-place.ensures) in
    let late = c.in_ok-push_place-in-Ok.ensures ∙ ap (λ n. with_place c.loop-value.late.items n c.in-Ok.entry.late) place in
    let totals = c.in_ok-push_place-in-Ok-2.ensures ∙ ap (λ n. with_place c.loop-value.totals.items n c.in-Ok.entry.total) place in
    let made = entry_pushed c.loop-value.names.items c.loop-value.brokers.items c.loop-value.texts.items c.loop-value.late.items c.loop-value.totals.items c.in-Ok.entry c.push.new.self.items c.push-in-Ok.new.self.items c.push-in-Ok-2.new.self.items c.push_place.new.places.items
    c.push_place-in-Ok.new.places.items c.in_ok-push-in-Ok.ensures.items c.in_ok-push-in-Ok-2.ensures.items c.in_ok-push-in-Ok-3.ensures.items late totals in
    ap (λ l. walk (one_entry c.args.key.now c.args.filters) l (seen_items (drop (c.loop-value.value-index + 1) c.args.values.now))) made ∙ sym step ∙ c.loop-value.invariant

pub returns : goal.returns
returns c =
    let found : EntryLists = record { names = c.loop-value.names.items; brokers = c.loop-value.brokers.items; filters = c.loop-value.texts.items; late = c.loop-value.late.items; totals = c.loop-value.totals.items } in
    sym c.loop-value.invariant ∙ items_end (one_entry c.args.key.now c.args.filters) found c.args.values.now c.loop-value.value-index c.loop-value-test.false
