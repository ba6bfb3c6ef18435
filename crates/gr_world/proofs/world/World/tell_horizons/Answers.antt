use Rattle.std.proofs.Common.{◌≡◌, ◌-◌, ◌+◌, ◌<◌, ◌++◌, ◌∙◌, ap, flat_map, length, arith}
use Rattle.gr_model.specs.Net.{numbers_from}
use Rattle.gr_world.specs.Seen.{WorldView, net_in, world_of}
use Rattle.gr_world.specs.Shown.{horizon_shown}
use Rattle.gr_report.proofs.Shown.{joined_next}
use Rattle.gr_world.proofs.world.World.tell_horizons.Goals as goal

pub publishers-preserved : goal.publishers-preserved
publishers-preserved c =
    let w = c.args.self.now in
    let n = length w.topo.publishers in
    let p = c.publishers.p in
    let many : length c.self.inside.topology.publishers ≡ n = ap (λ (v : WorldView). length v.topo.publishers) c.self.view_is in
    let before : p < n = omega (arith, c.publishers-test.true, c.publishers-p-end.ensures.count, many) in
    let left = flat_map (horizon_shown (net_in w) (world_of w) c.args.b) (numbers_from (p + 1) (n - (p + 1))) in
    ap (λ xs. xs ++ left) c.in_ok-tell_horizon.ensures
    ∙ (joined_next (horizon_shown (net_in w) (world_of w) c.args.b) c.publishers.into p n before ∙ c.publishers.invariant)
