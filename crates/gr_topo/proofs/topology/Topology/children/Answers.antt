use Rattle.std.proofs.Common.{◌≡◌, ◌++◌, ◌∷◌, [], ◌∙◌, sym, length, arith}
use Rattle.gr_topo.specs.Topology.{is_child_at, children_of}
use Rattle.gr_topo.proofs.TreeLists.{starts, takes_it, leaves_it, collected}
use Rattle.gr_topo.proofs.topology.Topology.children.Goals as goal
use Rattle.gr_topo.proofs.topology.Topology.children.Goals.{then-is_child+in_ok-push, else-is_child}

pub loop-c-init : goal.loop-c-init
loop-c-init c = starts (is_child_at c.args.self.now c.args.p c.args.b) c.new-found.result (length c.args.self.now.brokers) c.new-found.ensures

pub loop-c-preserved : goal.loop-c-preserved
loop-c-preserved c =
    let test = is_child_at c.args.self.now c.args.p c.args.b in
    let all = children_of c.args.self.now c.args.p c.args.b in
    elim c.if-is_child.branch [
      | then-is_child+in_ok-push w ↦
          let e : c.if-is_child.found ≡ c.loop-c.found ++ c.loop-c.c ∷ [] = w.found-is ∙ w.in_ok-push.ensures.ok in
          takes_it test c.loop-c.found c.if-is_child.found all c.loop-c.c (length c.args.self.now.brokers) c.loop-c.invariant (omega arith) (sym c.is_child.ensures ∙ w.if-is_child.true) e
      | else-is_child w ↦
          let e : c.if-is_child.found ≡ c.loop-c.found = w.found-is in
          leaves_it test c.loop-c.found c.if-is_child.found all c.loop-c.c (length c.args.self.now.brokers) c.loop-c.invariant (omega arith) (sym c.is_child.ensures ∙ w.if-is_child.false) e
    ]

pub returns : goal.returns
returns c = collected (is_child_at c.args.self.now c.args.p c.args.b) c.loop-c.found (children_of c.args.self.now c.args.p c.args.b) c.loop-c.c (length c.args.self.now.brokers) c.loop-c.invariant (omega arith)
