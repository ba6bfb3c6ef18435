use Rattle.std.proofs.Common.{arith}
use Rattle.gr_curio.proofs.ChildrenLemmas.{quiet_more}
use Rattle.gr_curio.proofs.children.quiet_children.Goals as goal

pub loop-made-preserved : goal.loop-made-preserved
loop-made-preserved c = record {
  upto = omega arith;
  quiet = quiet_more c.loop-made.children.items _ c.new.result c.loop-made.made c.in_ok-push.ensures.items c.new.ensures.runs c.loop-made.invariant.quiet;
}
