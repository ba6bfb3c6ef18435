use Rattle.std.proofs.Common.{not, sym, ap, ◌∙◌}
use Rattle.gr_know.proofs.ValueLaws.{same_event-iff}
use Rattle.gr_know.specs.Values.{clash_K}
use Rattle.gr_know.specs.declared.values.K.TheVariants.{D}
use Rattle.gr_know.proofs.news.clashing.Goals as goal

pub returns-in-D-came : goal.returns-in-D-came
returns-in-D-came c =
    ap not (same_event-iff c.same.result c.in-D.event c.in-D-came.second c.same.ensures)
    ∙ ap (clash_K (D c.in-D.event)) (sym c.in-D-came.is) ∙ ap (λ x. clash_K x c.args.came.now) (sym c.in-D.is)
