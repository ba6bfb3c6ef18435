use Rattle.gr_order.proofs.Keeping.{popped}
use Rattle.gr_order.proofs.merge.drop_first.Goals as goal

pub loop-preserved : goal.loop-preserved
loop-preserved c =
    let out = c.pop_first.ensures in
    popped c.pop_first.result c.loop.waiting.entries c.pop_first.new.self.entries c.args.waiting.now.entries c.loop.counter out.removal out.unchanged out.variant c.loop.invariant
