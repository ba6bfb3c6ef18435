use Rattle.std.proofs.Common.{arith}
use Rattle.gr_order_lists.proofs.Taking.{hears_on, heard_through}
use Rattle.gr_order_lists.proofs.orders.hear_all.Goals as goal

pub lines-preserved : goal.lines-preserved
lines-preserved c = record {
  heard = hears_on c.args.lists.now.items c.lines.lists.items c.hear_line.new.lists.items c.args.lines.now c.lines.line-index c.line-item.result c.lines.invariant.heard c.lines-test.true c.line-item.is c.in-Ok.ensures.heard;
  placed = c.hear_line.ensures.placed;
}

pub returns-clause-heard : goal.returns-clause-heard
returns-clause-heard c = heard_through c.args.lists.now.items c.lines.lists.items c.args.lines.now c.lines.line-index c.lines.invariant.heard (omega (arith, c.lines-test.false))
