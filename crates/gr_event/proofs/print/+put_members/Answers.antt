-- The first pair is put, and then the others
use Rattle.std.proofs.Common.{◌≡◌, length, arith, rules}
use Rattle.std.proofs.lemmas.Result.{on_ok_weaker}
use Rattle.gr_event.proofs.Walking.{something}
use Rattle.gr_event.proofs.Members.{put_end, put_first}
use Rattle.gr_event.proofs.print.+put_members.Goals as goal

pub returns-then-is_empty-clause-ok : goal.returns-then-is_empty-clause-ok
returns-then-is_empty-clause-ok t c =
    let none : length c.args.rest.now ≡ 0 = search rules in
    on_ok_weaker c.push.result (λ is. λ ps h. put_end c.args.after c.args.rest.now ps _ _ h none is) c.push.ensures.ok

pub front-requires : goal.front-requires
front-requires t c = something c.args.rest.now c.requires.0 c.requires.1 (search rules)

pub put_members-requires : goal.put_members-requires
put_members-requires t c =
    let first = something c.args.rest.now c.requires.0 c.requires.1 (omega (arith, c.front.ensures.shorter)) in
    (search rules, (first.1, (c.front.ensures.front first.0 first.1 first.2).2))

pub returns-in-Ok-clause-ok : goal.returns-in-Ok-clause-ok
returns-in-Ok-clause-ok t c =
    on_ok_weaker c.put_members.result
    (λ more. λ ps h. put_first c.args.after c.args.rest.now _ _ _ ps _ _ _ h (omega (arith, c.front.ensures.shorter)) c.front.ensures.front c.in-Ok.ensures.ok more)
    c.put_members.ensures.ok
