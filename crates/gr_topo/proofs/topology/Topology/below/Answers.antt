use Rattle.std.proofs.Common.{◌≡◌, ◌++◌, ◌∷◌, [], ◌∙◌, sym, ap, length, arith}
use Rattle.gr_topo.specs.Topology.{home_of, passes_by, below_of}
use Rattle.gr_topo.proofs.TreeLists.{starts, takes_it, leaves_it, collected}
use Rattle.gr_topo.proofs.topology.Topology.below.Goals as goal
use Rattle.gr_topo.proofs.topology.Topology.below.Goals.{then-passes+in_ok-push, else-passes}

pub loop-s-init : goal.loop-s-init
loop-s-init c = starts (λ s. passes_by c.args.self.now c.args.p c.args.b (home_of c.args.self.now s)) c.new-found.result (length c.args.self.now.subscribers) c.new-found.ensures

pub loop-s-preserved : goal.loop-s-preserved
loop-s-preserved c =
    let t = c.args.self.now in
    let here = ap (passes_by t c.args.p c.args.b) (sym c.at.ensures.home) ∙ sym c.passes.ensures in
    elim c.if-passes.branch [
      | then-passes+in_ok-push w ↦
          let e : c.if-passes.found ≡ c.loop-s.found ++ c.loop-s.s ∷ [] = w.found-is ∙ w.in_ok-push.ensures.ok in
          takes_it (λ s. passes_by t c.args.p c.args.b (home_of t s)) c.loop-s.found c.if-passes.found (below_of t c.args.p c.args.b) c.loop-s.s (length t.subscribers) c.loop-s.invariant (omega arith) (here ∙ w.if-passes.true) e
      | else-passes w ↦
          let e : c.if-passes.found ≡ c.loop-s.found = w.found-is in
          leaves_it (λ s. passes_by t c.args.p c.args.b (home_of t s)) c.loop-s.found c.if-passes.found (below_of t c.args.p c.args.b) c.loop-s.s (length t.subscribers) c.loop-s.invariant (omega arith) (here ∙ w.if-passes.false) e
    ]

pub returns : goal.returns
returns c = collected (λ s. passes_by c.args.self.now c.args.p c.args.b (home_of c.args.self.now s)) c.loop-s.found (below_of c.args.self.now c.args.p c.args.b) c.loop-s.s (length c.args.self.now.subscribers) c.loop-s.invariant (omega arith)
