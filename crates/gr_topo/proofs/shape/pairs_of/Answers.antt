use Rattle.std.proofs.Common.{◌∙◌, sym}
use Rattle.toml.specs.View.{view}
use Rattle.gr_topo.specs.Gives.{one_more}
use Rattle.gr_topo.specs.Shape.{pair_in}
use Rattle.gr_topo.proofs.Faults.{fails_as}
use Rattle.gr_topo.proofs.Walked.{items_more, items_refused, items_end, one_ok, one_err}
use Rattle.gr_topo.proofs.shape.pairs_of.Goals as goal

pub returns-in-Err : goal.returns-in-Err
returns-in-Err c = fails_as c.in-Err.fault (pair_in c.args.key.now (view c.value-item.result)) _
    (λ x e. sym c.loop-value.invariant ∙ items_refused (one_more (pair_in c.args.key.now)) c.loop-value.pairs.items x c.args.values.now c.loop-value.value-index c.value-item.result c.loop-value-test.true c.value-item.is
    (one_err (pair_in c.args.key.now) c.loop-value.pairs.items (view c.value-item.result) x e))
    c.in-Err.ensures

pub loop-value-preserved : goal.loop-value-preserved
loop-value-preserved c =
    let step = items_more (one_more (pair_in c.args.key.now)) c.loop-value.pairs.items _ c.args.values.now c.loop-value.value-index c.value-item.result c.loop-value-test.true c.value-item.is
    (one_ok (pair_in c.args.key.now) c.loop-value.pairs.items (view c.value-item.result) c.in-Ok.pair c.in-Ok.ensures) in
    rw c.in_ok-push-in-Ok.ensures.items (sym step ∙ c.loop-value.invariant)

pub returns : goal.returns
returns c = sym c.loop-value.invariant ∙ items_end (one_more (pair_in c.args.key.now)) c.loop-value.pairs.items c.args.values.now c.loop-value.value-index c.loop-value-test.false
