use Rattle.gr_broker_relay.proofs.Sent.{sends_no_know, sends_know}
use Rattle.gr_broker_relay.proofs.sending.send_down.Goals as goal

pub returns-then-is_empty : goal.returns-then-is_empty
returns-then-is_empty c = sends_no_know c.args.joins.now c.args.site.now.broker c.args.child c.args.site.now.publisher c.args.piece c.args.into.now (c.is_empty.ensures.0 c.if-is_empty.true)

pub returns : goal.returns
returns c = sends_know c.push.result c.args.site.now.broker c.args.child c.args.site.now.publisher c.args.piece c.share.result c.args.joins.now c.args.into.now c.push.new.self c.share.ensures c.push.ensures.cut c.push.ensures.spelled
