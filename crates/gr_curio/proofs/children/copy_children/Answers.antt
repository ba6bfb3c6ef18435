use Rattle.std.proofs.Common.{arith}
use Rattle.gr_curio.proofs.ChildrenLemmas.{copied_more, copied_all}
use Rattle.gr_curio.proofs.children.copy_children.Goals as goal

pub loop-child-preserved : goal.loop-child-preserved
loop-child-preserved c =
    copied_more c.loop-child.copy.items _ c.args.children.now _ c.child-item.result c.loop-child.child-index (omega arith) c.child-item.is c.in_ok-same.ensures.runs c.in_ok-push.ensures.items c.loop-child.invariant

pub returns : goal.returns
returns c = copied_all c.loop-child.copy.items c.args.children.now c.loop-child.child-index (omega arith) c.loop-child.invariant
