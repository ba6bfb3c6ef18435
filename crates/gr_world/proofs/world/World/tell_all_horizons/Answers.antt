use Rattle.std.proofs.Common.{◌≡◌, ◌-◌, ◌+◌, ◌<◌, ◌++◌, ◌∙◌, ap, flat_map, length, arith}
use Rattle.gr_model.specs.Net.{numbers_from}
use Rattle.gr_world.specs.Seen.{WorldView, net_in, world_of}
use Rattle.gr_world.specs.Shown.{horizons_shown}
use Rattle.gr_report.proofs.Shown.{joined_next}
use Rattle.gr_world.proofs.world.World.tell_all_horizons.Goals as goal

pub brokers-preserved : goal.brokers-preserved
brokers-preserved c =
    let w = c.args.self.now in
    let n = length w.topo.brokers in
    let b = c.brokers.b in
    let many : length c.self.inside.topology.brokers ≡ n = ap (λ (v : WorldView). length v.topo.brokers) c.self.view_is in
    let before : b < n = omega (arith, c.brokers-test.true, c.brokers-b-end.ensures.count, many) in
    let left = flat_map (horizons_shown (net_in w) (world_of w)) (numbers_from (b + 1) (n - (b + 1))) in
    ap (λ xs. xs ++ left) c.in_ok-tell_horizons.ensures
    ∙ (joined_next (horizons_shown (net_in w) (world_of w)) c.brokers.into b n before ∙ c.brokers.invariant)
