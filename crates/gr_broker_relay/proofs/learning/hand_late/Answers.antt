use Rattle.std.proofs.Common.{◌≡◌, ◌++◌, ◌&&◌, List, [], drop, nat_lt, sym, ap, ◌∙◌, arith}
use Rattle.std.proofs.lemmas.List.{append-nil, drop_all}
use Rattle.gr_subend.specs.Deliveries.{items}
use Rattle.gr_topo.specs.Topology.{wants}
use Rattle.gr_model.specs.declared.report.Report.{Report}
use Rattle.gr_broker_relay.specs.Handed.{got_lines}
use Rattle.gr_broker_relay.proofs.Shown.{late_none, late_some}
use Rattle.gr_broker_relay.proofs.learning.hand_late.Goals as goal

pub returns-in_default : goal.returns-in_default
returns-in_default c =
    sym (append-nil c.args.reports.now)
    ∙ ap (λ (xs : List Report). c.args.reports.now ++ xs) (sym (late_none c.args.site.now.topo.now c.args.joins.now c.args.site.now.publisher c.args.subscriber (items c.args.deliveries.now) c.len.ensures.joins.once (sym c.in_default.ensures)))

pub returns : goal.returns
returns c =
    let t = c.args.site.now.topo.now in
    let p = c.args.site.now.publisher in
    let s = c.args.subscriber in
    let ds = c.args.deliveries.now in
    let none : drop c.deliveries.delivery-index ds ≡ [] = drop_all c.deliveries.delivery-index ds (omega (arith, c.deliveries-test.false)) in
    sym (append-nil c.deliveries.reports)
    ∙ ap (λ xs. c.deliveries.reports ++ got_lines (λ x. nat_lt c.in-Some.join x.0 && wants t s x.1) p (items xs) s) (sym none)
    ∙ c.deliveries.invariant
    ∙ ap (λ (xs : List Report). c.args.reports.now ++ xs) (late_some t c.args.joins.now p s c.in-Some.join (items ds) c.len.ensures.joins.once (sym c.tick_of.ensures ∙ c.in-Some.is))
