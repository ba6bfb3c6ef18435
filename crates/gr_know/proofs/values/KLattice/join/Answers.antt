use Rattle.std.proofs.Common.{cond, sym, ap, ◌∙◌}
use Rattle.gr_know.specs.Values.{join_K}
use Rattle.gr_know.proofs.ValueLaws.{same_event-iff}
use Rattle.gr_know.specs.declared.values.K.TheVariants.{D, F}
use Rattle.gr_know.proofs.values.KLattice.join.Goals as goal

pub returns-then-same : goal.returns-then-same
returns-then-same c =
    ap (λ b. cond b (D c.in-D.event) F) (sym c.if-same.true ∙ same_event-iff c.same.result c.in-D.event c.in-D-other-2.second c.same.ensures)
    ∙ ap (join_K (D c.in-D.event)) (sym c.in-D-other-2.is) ∙ ap (λ x. join_K x c.args.other) (sym c.in-D.is)

pub returns-else-same : goal.returns-else-same
returns-else-same c =
    ap (λ b. cond b (D c.in-D.event) F) (sym c.if-same.false ∙ same_event-iff c.same.result c.in-D.event c.in-D-other-2.second c.same.ensures)
    ∙ ap (join_K (D c.in-D.event)) (sym c.in-D-other-2.is) ∙ ap (λ x. join_K x c.args.other) (sym c.in-D.is)
