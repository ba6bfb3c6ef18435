use Rattle.std.proofs.lemmas.Map.Iter.{rest_all, rest_more}
use Rattle.std.specs.Map.Iter.{deref_pair}
use Rattle.gr_order.proofs.Keeping.{keys_rise, read_all, read_front}
use Rattle.gr_order.proofs.merge.first_items.Goals as goal

pub returns-then-place-tick-clause-given : goal.returns-then-place-tick-clause-given
returns-then-place-tick-clause-given c =
    let all = c.args.waiting.now.entries in
    let left = c.loop-place.place-iterator in
    read_front c.args.tick c.loop-place.items.items left c.next.new.self all (c.in-Some.place.now, c.in-Some.event.now) c.loop-place.invariant (rest_more deref_pair left c.next.new.self c.next.result (c.in-Some.place, c.in-Some.event) c.in-Some.is c.next.ensures.steps) c.if-place-tick.true (keys_rise all c.into_iter-place-iterator.ensures.into_iter_gives.5)

pub returns-then-place-tick-clause-rising : goal.returns-then-place-tick-clause-rising
returns-then-place-tick-clause-rising c = keys_rise c.args.waiting.now.entries c.into_iter-place-iterator.ensures.into_iter_gives.5

pub returns-clause-given : goal.returns-clause-given
returns-clause-given c =
    let all = c.args.waiting.now.entries in
    let left = c.loop-place.place-iterator in
    read_all c.args.tick c.loop-place.items.items left all c.loop-place.invariant (rest_all deref_pair left c.next.new.self c.next.result c.in-None.is c.next.ensures.steps) (keys_rise all c.into_iter-place-iterator.ensures.into_iter_gives.5)

pub returns-clause-rising : goal.returns-clause-rising
returns-clause-rising c = keys_rise c.args.waiting.now.entries c.into_iter-place-iterator.ensures.into_iter_gives.5
