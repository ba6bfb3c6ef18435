use Rattle.std.proofs.Common.{◌≡◌, suc, ◌-◌, ◌++◌, ◌∙◌, ap, arith}
use Rattle.std.specs.List.{flat_map}
use Rattle.gr_model.specs.NetOf.{net_of}
use Rattle.gr_model.specs.World.{at_depth, inwards, numbers_down}
use Rattle.gr_world.proofs.Depths.{inwards_more}
use Rattle.gr_world.proofs.order.deepest_first.Goals as goal

pub depths-preserved : goal.depths-preserved
depths-preserved c =
    let net = net_of c.args.topology.now in
    let d = c.depths.depth in
    let e : suc (d - 1) ≡ d = omega (arith, c.depths-test.true) in
    inwards_more (at_depth net c.args.p) c.depths.found c.put_depth.new.found (inwards net c.args.p) (d - 1) c.in_ok-put_depth.ensures
    (ap (λ k. c.depths.found ++ flat_map (at_depth net c.args.p) (numbers_down k)) e ∙ c.depths.invariant)
