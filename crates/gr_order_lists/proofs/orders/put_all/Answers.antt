use Rattle.std.proofs.Common.{◌≡◌, ◌∙◌, ap, arith}
use Rattle.gr_order_lists.proofs.PlacedLists.{placed_set}
use Rattle.gr_order_lists.proofs.ReadyLists.{goes_on, as_many}
use Rattle.gr_order_lists.proofs.orders.put_all.Goals as goal

pub returns-in-Err-clause-same : goal.returns-in-Err-clause-same
returns-in-Err-clause-same c = λ places a.
    placed_set 0 c.lists.i c.lists.lists.items places c.put_ready.new.self c.index_mut.result.now (c.lists.invariant.placed places a) (c.put_ready.ensures.same ∙ ap (λ o. o.subscriber) c.index_mut.ensures.value)

pub lists-preserved : goal.lists-preserved
lists-preserved c =
    let long = as_many c.args.lists.now.items c.lists.lists.items c.args.lines.now c.lists.lines c.lists.i c.lists.invariant in
    goes_on c.args.lists.now.items c.lists.lists.items c.args.lines.now c.lists.lines c.put_ready.new.lines c.lists.i c.index_mut.result.now c.put_ready.new.self c.lists.invariant
    (omega (arith, long, c.lists-test.true, c.len-i-end.ensures)) c.index_mut.ensures.value c.in-Ok.ensures.left c.in-Ok.ensures.told
