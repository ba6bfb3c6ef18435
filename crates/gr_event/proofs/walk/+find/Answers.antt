-- The first pair has the name, or it is sought behind it
use Rattle.std.proofs.Common.{arith, rules}
use Rattle.gr_event.proofs.Walking.{something, none_found, found_here, found_behind}
use Rattle.gr_event.proofs.walk.+find.Goals as goal

pub returns-then-is_empty : goal.returns-then-is_empty
returns-then-is_empty t c = λ ps h. none_found c.args.rest.now c.args.name.now ps h (search rules)

pub front-requires : goal.front-requires
front-requires t c = something c.args.rest.now c.requires.0 c.requires.1 (search rules)

pub returns-then-eq : goal.returns-then-eq
returns-then-eq t c = λ ps h. found_here c.args.rest.now c.args.name.now _ _ _ ps h (omega (arith, c.front.ensures.shorter)) c.front.ensures.front (search rules)

pub find-requires : goal.find-requires
find-requires t c =
    let first = something c.args.rest.now c.requires.0 c.requires.1 (omega (arith, c.front.ensures.shorter)) in
    (search rules, (first.1, (c.front.ensures.front first.0 first.1 first.2).2))

pub returns : goal.returns
returns t c = λ ps h. found_behind c.args.rest.now c.args.name.now _ _ _ _ ps h (omega (arith, c.front.ensures.shorter)) c.front.ensures.front (search rules) c.find.ensures
