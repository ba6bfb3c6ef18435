use Rattle.std.proofs.Common.{◌≡◌, ◌++◌, ◌∷◌, [], ◌∙◌, sym, nat_eq, length, arith, eq-eqb, ne_eqb}
use Rattle.gr_topo.specs.Topology.{home_of, subscribers_of}
use Rattle.gr_topo.proofs.TreeLists.{starts, takes_it, leaves_it, collected}
use Rattle.gr_topo.proofs.topology.Topology.subscribers_at.Goals as goal
use Rattle.gr_topo.proofs.topology.Topology.subscribers_at.Goals.{then-at-b+in_ok-push, else-at-b}

pub loop-s-init : goal.loop-s-init
loop-s-init c = starts (λ s. nat_eq (home_of c.args.self.now s) c.args.b) c.new-found.result (length c.args.self.now.subscribers) c.new-found.ensures

pub loop-s-preserved : goal.loop-s-preserved
loop-s-preserved c =
    elim c.if-at-b.branch [
      | then-at-b+in_ok-push w ↦
          let e : c.if-at-b.found ≡ c.loop-s.found ++ c.loop-s.s ∷ [] = w.found-is ∙ w.in_ok-push.ensures.ok in
          takes_it (λ s. nat_eq (home_of c.args.self.now s) c.args.b) c.loop-s.found c.if-at-b.found (subscribers_of c.args.self.now c.args.b) c.loop-s.s (length c.args.self.now.subscribers) c.loop-s.invariant (omega arith)
          (eq-eqb (home_of c.args.self.now c.loop-s.s) c.args.b (sym c.at.ensures.home ∙ w.if-at-b.true)) e
      | else-at-b w ↦
          let e : c.if-at-b.found ≡ c.loop-s.found = w.found-is in
          leaves_it (λ s. nat_eq (home_of c.args.self.now s) c.args.b) c.loop-s.found c.if-at-b.found (subscribers_of c.args.self.now c.args.b) c.loop-s.s (length c.args.self.now.subscribers) c.loop-s.invariant (omega arith)
          (ne_eqb (home_of c.args.self.now c.loop-s.s) c.args.b (λ k. w.if-at-b.false (c.at.ensures.home ∙ k))) e
    ]

pub returns : goal.returns
returns c = collected (λ s. nat_eq (home_of c.args.self.now s) c.args.b) c.loop-s.found (subscribers_of c.args.self.now c.args.b) c.loop-s.s (length c.args.self.now.subscribers) c.loop-s.invariant (omega arith)
