use Rattle.std.proofs.Common.{◌≡◌, ◌<◌, ℕ, length, arith, rules, get_or}
use Rattle.std.proofs.lemmas.Grind.{get_or_default_zero}
use Rattle.gr_order_lists.proofs.Taking.{taken_at}
use Rattle.gr_order_lists.proofs.list.take.Goals as goal

pub returns-clause-fits : goal.returns-clause-fits
returns-clause-fits c =
    taken_at c.args.merge.now c.take.new.self c.args.reached.now.items c.args.p c.from-place.result c.args.tick c.args.event
    c.requires c.from-place.ensures c.in_ok-take.ensures.ok (search rules)
    (let lt : c.from-place.result < length c.args.reached.now.items = search rules in
    let zero = get_or_default_zero c.args.reached.now.items c.from-place.result c.index.result.now lt in omega (arith, zero, c.index.ensures, c.if-tick-index.false))
