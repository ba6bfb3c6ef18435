use Rattle.std.proofs.Common.{◌-◌, ◌+◌, ◌<◌, ◌++◌, ◌∙◌, ap, flat_map, length, arith}
use Rattle.gr_model.specs.Net.{numbers_from}
use Rattle.gr_report.proofs.Shown.{joined_next}
use Rattle.gr_node.specs.Seen.{seen}
use Rattle.gr_node.specs.Done.{log_shown_in}
use Rattle.gr_node.proofs.showing.tell_logs.Goals as goal

pub publishers-preserved : goal.publishers-preserved
publishers-preserved c =
    let t = c.args.site.now.topo.now in
    let n = length t.publishers in
    let p = c.publishers.p in
    let f = log_shown_in t c.args.site.now.hosted.now (seen c.args.node.now) in
    let before : p < n = omega (arith, c.publishers-test.true, c.publishers-p-end.ensures.count) in
    let left = flat_map f (numbers_from (p + 1) (n - (p + 1))) in
    ap (λ xs. xs ++ left) c.in_ok-tell_log.ensures ∙ (joined_next f c.publishers.into p n before ∙ c.publishers.invariant)
