-- The members are read one by one, and then the size is asked
use Rattle.std.proofs.Common.{rules, arith, refl}
use Rattle.gr_event.proofs.Reading.{too_many, few, are_pairs, gives_short, fails_first}
use Rattle.gr_event.proofs.parse.event_of.Goals as goal

pub returns-then-len-gt-MAX_PAIRS : goal.returns-then-len-gt-MAX_PAIRS
returns-then-len-gt-MAX_PAIRS c = too_many _ _ c.len.result refl c.len.ensures.len (search rules)

pub of_short_pairs-requires : goal.of_short_pairs-requires
of_short_pairs-requires c = are_pairs c.args.map c.in-Ok.pairs.items c.len.ensures.ordered (omega (arith, c.len.ensures.len)) c.in-Ok.ensures.names c.in-Ok.ensures.each

pub returns-in-Ok : goal.returns-in-Ok
returns-in-Ok c =
    let same = few _ c.args.map.entries c.len.result refl c.len.ensures.len (search rules) in
    rw same (gives_short c.of_short_pairs.result c.in-Ok.pairs.items _ c.in-Ok.ensures.gives c.of_short_pairs.ensures)

pub returns-in-Err : goal.returns-in-Err
returns-in-Err c =
    let same = few _ c.args.map.entries c.len.result refl c.len.ensures.len (search rules) in
    rw same (fails_first c.in-Err.fault _ c.in-Err.ensures.gives)
