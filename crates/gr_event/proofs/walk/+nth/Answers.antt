-- The first pair stands at 0, and the others one place further on than behind it
use Rattle.std.proofs.Common.{◌≡◌, ◌<◌, ◌-◌, suc, length, arith, rules}
use Rattle.gr_event.proofs.Walking.{some_front, at_front, at_behind}
use Rattle.gr_event.proofs.walk.+nth.Goals as goal

pub front-requires : goal.front-requires
front-requires t c =
    let first = some_front c.args.i c.args.rest.now c.requires.0 c.requires.1 c.requires.2 in
    (first.0, first.1, first.2)

pub returns-then-i-eq0 : goal.returns-then-i-eq0
returns-then-i-eq0 t c = λ ps h. at_front c.args.rest.now _ _ _ c.args.i ps h (omega (arith, c.front.ensures.shorter)) c.front.ensures.front (search rules)

pub nth-requires : goal.nth-requires
nth-requires t c =
    let first = some_front c.args.i c.args.rest.now c.requires.0 c.requires.1 c.requires.2 in
    let less : c.args.i - 1 < length first.1 = omega (arith, first.3, c.if-i-eq0.false) in
    (search rules, (first.1, (c.front.ensures.front first.0 first.1 first.2).2, less))

pub returns : goal.returns
returns t c = λ ps h.
    let next : c.args.i ≡ suc (c.args.i - 1) = omega (arith, c.if-i-eq0.false) in
    at_behind c.args.rest.now _ _ _ c.args.i (c.args.i - 1) _ ps h (omega (arith, c.front.ensures.shorter)) c.front.ensures.front next c.nth.ensures
