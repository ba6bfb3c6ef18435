use Rattle.std.proofs.Common.{◌∙◌, sym}
use Rattle.gr_topo.specs.Gives.{one_more}
use Rattle.gr_topo.specs.Checks.{link_in}
use Rattle.gr_topo.proofs.Faults.{fails_as}
use Rattle.gr_topo.proofs.Walked.{list_more, list_refused, list_end, one_ok, one_err}
use Rattle.gr_topo.proofs.names.links_in.Goals as goal

pub returns-in-Err : goal.returns-in-Err
returns-in-Err c = fails_as c.in-Err.fault (link_in c.args.brokers.now c.pair-item.result) _
    (λ x e. sym c.loop-pair.invariant ∙ list_refused (one_more (link_in c.args.brokers.now)) c.loop-pair.links.items x c.args.pairs.now c.loop-pair.pair-index c.pair-item.result c.loop-pair-test.true c.pair-item.is
    (one_err (link_in c.args.brokers.now) c.loop-pair.links.items c.pair-item.result x e))
    c.in-Err.ensures

pub loop-pair-preserved : goal.loop-pair-preserved
loop-pair-preserved c =
    let step = list_more (one_more (link_in c.args.brokers.now)) c.loop-pair.links.items _ c.args.pairs.now c.loop-pair.pair-index c.pair-item.result c.loop-pair-test.true c.pair-item.is
    (one_ok (link_in c.args.brokers.now) c.loop-pair.links.items c.pair-item.result c.in-Ok.link c.in-Ok.ensures) in
    rw c.in_ok-push-in-Ok.ensures.items (sym step ∙ c.loop-pair.invariant)

pub returns : goal.returns
returns c = sym c.loop-pair.invariant ∙ list_end (one_more (link_in c.args.brokers.now)) c.loop-pair.links.items c.args.pairs.now c.loop-pair.pair-index c.loop-pair-test.false
