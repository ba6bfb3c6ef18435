use Rattle.std.proofs.Common.{◌≡◌, ◌++◌, ◌∷◌, [], ◌∙◌, sym, nat_eq, ℕ, length, arith, eq-eqb, ne_eqb}
use Rattle.gr_topo.specs.Topology.{depth_at}
use Rattle.gr_model.specs.NetOf.{net_of}
use Rattle.gr_model.specs.World.{at_depth}
use Rattle.gr_world.proofs.Depths.{takes, leaves}
use Rattle.gr_world.proofs.order.put_depth.Goals as goal
use Rattle.gr_world.proofs.order.put_depth.Goals.{then-depth+in_ok-push, else-depth}

pub brokers-preserved : goal.brokers-preserved
brokers-preserved c =
    let t = c.args.topology.now in
    let p = c.args.p in
    let d = c.args.depth in
    let b = c.brokers.b in
    let n = length t.brokers in
    let test = λ (x : ℕ). nat_eq (depth_at t p x) d in
    let all = c.args.found.now ++ at_depth (net_of t) p d in
    elim c.if-depth.branch [
      | then-depth+in_ok-push w ↦
          let e : c.if-depth.found ≡ c.brokers.found ++ b ∷ [] = w.found-is ∙ w.in_ok-push.ensures.ok in
          takes test c.brokers.found c.if-depth.found all b n (omega (arith, c.brokers-test.true, c.brokers-b-end.ensures.count))
          (eq-eqb (depth_at t p b) d (sym c.depth.ensures ∙ w.if-depth.true)) e c.brokers.invariant
      | else-depth w ↦
          let e : c.if-depth.found ≡ c.brokers.found = w.found-is in
          leaves test c.brokers.found c.if-depth.found all b n (omega (arith, c.brokers-test.true, c.brokers-b-end.ensures.count))
          (ne_eqb (depth_at t p b) d (λ k. w.if-depth.false (c.depth.ensures ∙ k))) e c.brokers.invariant
    ]
