use Rattle.std.proofs.Common.{◌≡◌, ◌<◌, length, get_or, arith}
use Rattle.std.proofs.lemmas.List.{get_or_read}
use Rattle.gr_tests_texts.proofs.Heard.{heard_take}
use Rattle.gr_tests_texts.proofs.orders.Heard.take.Goals as goal

pub invariant_of-self-2 : goal.invariant_of-self-2
invariant_of-self-2 c =
    let latest = c.self.inside.latest.items in
    let inside : c.from-place.result < length latest = omega (arith, c.if-place-len-2.false, c.len-else-place-len.ensures) in
    let read : c.index-else-tick-index.result.now ≡ get_or latest c.from-place.result 0 = get_or_read latest _ _ inside c.index-else-tick-index.ensures 0 in
    let later : get_or latest c.from-place.result 0 < c.args.tick = omega (arith, read, c.if-tick-index-2.false) in
    heard_take c.self.inside.merge c.take.new.self c.self.inside.horizons.items latest _ c.from-place.result c.self.invariant c.in_ok-take.ensures.ok c.from-place.ensures inside later
