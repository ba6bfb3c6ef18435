-- What was read so far, before what is left to read, is what the whole object gives
use Rattle.std.proofs.lemmas.Map.Iter.{rest_more}
use Rattle.gr_event.proofs.Reading.{front_one_more, first_refused, names_one_more, each_one_more, all_read, all_named}
use Rattle.gr_event.proofs.parse.pairs_of.Goals as goal

pub loop-name-preserved : goal.loop-name-preserved
loop-name-preserved c =
    let here = rest_more (λ p. p) c.loop-name.name-iterator c.next.new.self c.next.result (c.in-Some.name, c.in-Some.value) c.in-Some.is c.next.ensures.steps in
    rw c.in_ok-push-in-Ok.ensures.items
    (tt, tt, front_one_more c.loop-name.found.items c.loop-name.name-iterator c.next.new.self c.in-Some.name c.in-Some.value c.in-Ok.pair _ here c.in-Ok.ensures.gives c.loop-name.invariant.2, names_one_more c.loop-name.found.items c.loop-name.name-iterator c.next.new.self c.in-Some.name c.in-Some.value c.in-Ok.pair _ here c.in-Ok.ensures.name c.loop-name.invariant.3, each_one_more c.loop-name.found.items c.in-Ok.pair c.loop-name.invariant.4 c.in-Ok.ensures.pair)

pub returns-in-Err-clause-gives : goal.returns-in-Err-clause-gives
returns-in-Err-clause-gives c =
    let here = rest_more (λ p. p) c.loop-name.name-iterator c.next.new.self c.next.result (c.in-Some.name, c.in-Some.value) c.in-Some.is c.next.ensures.steps in
    first_refused c.loop-name.found.items c.loop-name.name-iterator c.next.new.self c.in-Some.name c.in-Some.value c.in-Err.fault _ here c.loop-name.invariant.2 c.in-Err.ensures.gives

pub returns-clause-gives : goal.returns-clause-gives
returns-clause-gives c = all_read c.loop-name.found.items c.loop-name.name-iterator _ c.in-None.ensures.steps.0 c.loop-name.invariant.2

pub returns-clause-names : goal.returns-clause-names
returns-clause-names c = all_named c.loop-name.found.items c.loop-name.name-iterator _ c.in-None.ensures.steps.0 c.loop-name.invariant.3
