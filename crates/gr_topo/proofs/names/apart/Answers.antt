use Rattle.gr_topo.proofs.NameTurns.{twice, one_name_more, all_apart}
use Rattle.gr_topo.proofs.names.apart.Goals as goal

pub returns-then-not-is_new : goal.returns-then-not-is_new
returns-then-not-is_new c =
    twice c.args.names.now c.loop-name.seen.keys c.loop-name.name-index c.name-item.result c.as_slice.result.now c.as_slice-then-not-is_new.result.now c.in_ok-from_slice.field-0 c.in_ok-copy.copy c.in_ok-is_new.is_new
    c.loop-name.invariant c.loop-name-test.true c.name-item.is c.as_slice.ensures c.in_ok-copy.ensures.items c.in_ok-is_new.ensures.added c.if-not-is_new.true c.as_slice-then-not-is_new.ensures c.in_ok-from_slice.ensures

pub loop-name-preserved : goal.loop-name-preserved
loop-name-preserved c =
    one_name_more c.args.names.now c.loop-name.seen.keys _ c.loop-name.name-index c.name-item.result c.as_slice.result.now c.in_ok-copy.copy c.in_ok-is_new.is_new
    c.loop-name.invariant c.loop-name-test.true c.name-item.is c.as_slice.ensures c.in_ok-copy.ensures.items c.in_ok-is_new.ensures.added c.if-not-is_new.false c.in_ok-is_new.ensures.keys

pub returns : goal.returns
returns c = all_apart c.args.names.now c.loop-name.seen.keys c.loop-name.name-index c.loop-name.invariant c.loop-name-test.false
