-- The base, the events and the joins past the cut, and what ends them
use Rattle.std.proofs.Common.{◌≡◌, ◌-◌, ◌++◌, ◌∷◌, [], take, drop, ap, sym, subst, ◌∙◌, arith}
use Rattle.gr_event.specs.Joins.{JoinsRise, last_join_tick}
use Rattle.gr_publog.specs.declared.record.State.{State}
use Rattle.gr_publog.specs.State.{Apart}
use Rattle.gr_publog.specs.Text.{blocks}
use Rattle.gr_publog.specs.Filled.{joins_upto, joins_past, marked}
use Rattle.gr_publog.proofs.Putting.{body_put, rise_rest, apart_rest}
use Rattle.gr_publog.proofs.fill.body.Goals as goal

pub put_records-requires-clause-rise : goal.put_records-requires-clause-rise
put_records-requires-clause-rise c =
    rise_rest c.args.cut c.as_slice-joins.result.now _ c.joins_past-past.ensures.rest (subst (JoinsRise 0) (sym c.as_slice-joins.ensures.slice) c.as_slice-joins.ensures.joins.rise)

pub put_records-requires-clause-apart : goal.put_records-requires-clause-apart
put_records-requires-clause-apart c =
    let js = c.as_slice-joins.result.now in
    let es = drop c.args.from c.args.entries.now.items in
    let is : js ≡ c.args.footing.now.joins = c.as_slice-joins.ensures.slice ∙ c.joins.ensures in
    apart_rest c.args.cut es js _ c.joins_past-past.ensures.rest (subst (Apart es) (sym is) c.requires.state.apart)

pub returns : goal.returns
returns c =
    let f = c.args.footing.now in
    let js = c.as_slice-joins.result.now in
    let is : js ≡ f.joins = c.as_slice-joins.ensures.slice ∙ c.joins.ensures in
    let numbers : c.state-state.result.now ≡ f.state = c.state-state.ensures in
    let b2 = c.put_records.new.bytes.items in
    body_put c.new-bytes.result.items c.put_base.new.bytes.items b2 c.put_end.new.bytes.items c.args.generation c.args.from c.args.cut c.in_ok-event.event c.greater.result
    (c.state-state.result.now.last - (c.len.result - c.args.from)) f (take c.joins_past-past.result js) (drop c.joins_past-past.result js) c.args.entries.now.items
    (omega (arith, c.len.ensures, ap (λ (s : State). s.last) numbers)) c.new-bytes.ensures.items
    (c.joins_past-past.ensures.before ∙ ap (joins_upto c.args.cut) is) (c.joins_past-past.ensures.rest ∙ ap (joins_past c.args.cut) is) c.in_ok-put_base.ensures
    c.in_ok-event.ensures.text c.in_ok-event.ensures.top (omega (arith, c.greater.ensures, c.last_tick.ensures, ap last_join_tick is))
    (c.in_ok-put_end.ensures ∙ ap (λ (s : State). b2 ++ (blocks (marked c.greater.result s.settled) ++ 0 ∷ [])) numbers)
