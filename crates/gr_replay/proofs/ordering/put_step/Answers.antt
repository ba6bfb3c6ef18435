use Rattle.std.proofs.Common.{sym, subst}
use Rattle.gr_model.specs.Orders.{AreOrdersOf, fed, ordered}
use Rattle.gr_model.specs.Text.{labels_of}
use Rattle.gr_model.proofs.Ordering.{fed_keeps}
use Rattle.gr_replay.proofs.OrderPages.{put_both, front_first, front_both, put_unready}
use Rattle.gr_replay.proofs.ordering.put_step.Goals as goal

pub put_ready-requires : goal.put_ready-requires
put_ready-requires g c =
    subst (AreOrdersOf c.args.topology.now) (sym c.in-Ok-hear.ensures) (fed_keeps c.args.topology.now c.args.orders.now c.args.lines.now c.requires.orders)

pub returns-in-Err-clause-front : goal.returns-in-Err-clause-front
returns-in-Err-clause-front g c =
    front_first _ _ (labels_of c.args.topology.now) c.args.page.now.held c.args.lines.now (ordered (fed c.args.orders.now c.args.lines.now)) c.in-Err.ensures.front

pub returns-in-Err-hear-clause-front : goal.returns-in-Err-hear-clause-front
returns-in-Err-hear-clause-front g c =
    put_unready _ _ (labels_of c.args.topology.now) c.args.page.now.held c.args.lines.now (ordered (fed c.args.orders.now c.args.lines.now)) c.put_all.new.page.held c.in-Ok.ensures.ok

pub returns-clause-ok : goal.returns-clause-ok
returns-clause-ok g c =
    put_both _ _ _ (labels_of c.args.topology.now) c.args.page.now.held c.args.lines.now c.hear.new.self (fed c.args.orders.now c.args.lines.now) c.put_all.new.page.held c.put_ready.new.page.held c.put_ready.result
    c.in-Ok.ensures.ok c.in-Ok-hear.ensures c.put_ready.ensures.ok

pub returns-clause-front : goal.returns-clause-front
returns-clause-front g c =
    front_both _ _ _ (labels_of c.args.topology.now) c.args.page.now.held c.args.lines.now c.hear.new.self (fed c.args.orders.now c.args.lines.now) c.put_all.new.page.held c.put_ready.result
    c.in-Ok.ensures.ok c.in-Ok-hear.ensures c.put_ready.ensures.front
