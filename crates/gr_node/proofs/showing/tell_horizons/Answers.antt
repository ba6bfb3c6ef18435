use Rattle.std.proofs.Common.{◌-◌, ◌+◌, ◌<◌, ◌++◌, ◌∙◌, ap, flat_map, length, arith}
use Rattle.gr_model.specs.Net.{numbers_from}
use Rattle.gr_report.proofs.Shown.{joined_next}
use Rattle.gr_node.specs.Done.{doubt_shown}
use Rattle.gr_node.proofs.showing.tell_horizons.Goals as goal

pub publishers-preserved : goal.publishers-preserved
publishers-preserved c =
    let t = c.args.topo.now in
    let n = length t.publishers in
    let p = c.publishers.p in
    let f = doubt_shown t c.args.b c.args.broker.now in
    let before : p < n = omega (arith, c.publishers-test.true, c.publishers-p-end.ensures.count) in
    let left = flat_map f (numbers_from (p + 1) (n - (p + 1))) in
    ap (λ xs. xs ++ left) c.in_ok-tell_horizon.ensures ∙ (joined_next f c.publishers.into p n before ∙ c.publishers.invariant)
