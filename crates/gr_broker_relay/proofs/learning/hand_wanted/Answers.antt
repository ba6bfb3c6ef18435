use Rattle.std.proofs.Common.{◌≡◌, ◌++◌, List, OnOk, sym, ◌∙◌, subst}
use Rattle.gr_subend.specs.Deliveries.{items}
use Rattle.gr_model.specs.declared.report.Report.{Report}
use Rattle.gr_broker_relay.proofs.Shown.{gets_late, gets_in_time}
use Rattle.gr_broker_relay.proofs.learning.hand_wanted.Goals as goal

pub returns-then-late : goal.returns-then-late
returns-then-late c =
    subst (λ (xs : List Report). OnOk c.hand_late.result (c.hand_late.new.reports ≡ c.args.reports.now ++ xs))
    (gets_late c.args.site.now.topo.now c.args.joins.now c.args.site.now.publisher c.args.subscriber (items c.args.deliveries.now) (sym c.late.ensures ∙ c.if-late.true)) c.hand_late.ensures

pub returns : goal.returns
returns c =
    subst (λ (xs : List Report). OnOk c.hand_in_time.result (c.hand_in_time.new.reports ≡ c.args.reports.now ++ xs))
    (gets_in_time c.args.site.now.topo.now c.args.joins.now c.args.site.now.publisher c.args.subscriber (items c.args.deliveries.now) (sym c.late.ensures ∙ c.if-late.false)) c.hand_in_time.ensures
