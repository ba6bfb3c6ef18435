use Rattle.std.proofs.Common.{◌≡◌, ◌-◌, ◌+◌, ◌<◌, ◌++◌, ◌∷◌, [], ◌∙◌, ap, map, length, arith}
use Rattle.gr_model.specs.Net.{numbers_from}
use Rattle.gr_world.specs.Seen.{WorldView, world_of}
use Rattle.gr_world.specs.Shown.{log_shown}
use Rattle.gr_report.proofs.Shown.{mapped_next}
use Rattle.gr_world.proofs.world.World.tell_logs.Goals as goal

pub publishers-preserved : goal.publishers-preserved
publishers-preserved c =
    let w = c.args.self.now in
    let n = length w.topo.publishers in
    let p = c.publishers.p in
    let many : length c.self.inside.topology.publishers ≡ n = ap (λ (v : WorldView). length v.topo.publishers) c.self.view_is in
    let before : p < n = omega (arith, c.publishers-test.true, c.publishers-p-end.ensures.count, many) in
    let left = map (log_shown (world_of w)) (numbers_from (p + 1) (n - (p + 1))) in
    ap (λ xs. xs ++ left) (c.in_ok-push.ensures.ok ∙ ap (λ x. c.publishers.into ++ x ∷ []) c.log_line.ensures)
    ∙ (mapped_next (log_shown (world_of w)) c.publishers.into p n before ∙ c.publishers.invariant)
