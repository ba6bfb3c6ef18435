use Rattle.std.proofs.Common.{[], refl, ◌∙◌, sym, length, arith}
use Rattle.gr_topo.specs.Topology.{is_child_at, children_of}
use Rattle.gr_topo.proofs.TreeLists.{starts, some_passes, none_passes, skips_here}
use Rattle.gr_topo.proofs.topology.Topology.has_child.Goals as goal

pub loop-c-init : goal.loop-c-init
loop-c-init c = starts (is_child_at c.args.self.now c.args.p c.args.b) [] (length c.args.self.now.brokers) refl

pub returns-then-is_child : goal.returns-then-is_child
returns-then-is_child c = some_passes (is_child_at c.args.self.now c.args.p c.args.b) (children_of c.args.self.now c.args.p c.args.b) c.loop-c.c (length c.args.self.now.brokers) c.loop-c.invariant (omega arith) (sym c.is_child.ensures ∙ c.if-is_child.true)

pub loop-c-preserved : goal.loop-c-preserved
loop-c-preserved c = skips_here (is_child_at c.args.self.now c.args.p c.args.b) (children_of c.args.self.now c.args.p c.args.b) c.loop-c.c (length c.args.self.now.brokers) c.loop-c.invariant (omega arith) (sym c.is_child.ensures ∙ c.if-is_child.false)

pub returns : goal.returns
returns c = none_passes (is_child_at c.args.self.now c.args.p c.args.b) (children_of c.args.self.now c.args.p c.args.b) c.loop-c.c (length c.args.self.now.brokers) c.loop-c.invariant (omega arith)
