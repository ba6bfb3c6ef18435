use Rattle.std.proofs.Common.{sym, ap, ◌∙◌}
use Rattle.gr_know.specs.Order.{is_at_most}
use Rattle.gr_know.proofs.ValueLaws.{same_event-iff}
use Rattle.gr_know.specs.declared.values.K.TheVariants.{D}
use Rattle.gr_know.proofs.values.KLattice.at_most.Goals as goal

pub returns-in-D-other : goal.returns-in-D-other
returns-in-D-other c =
    same_event-iff c.same.result c.in-D.event c.in-D-other.second c.same.ensures
    ∙ ap (is_at_most (D c.in-D.event)) (sym c.in-D-other.is) ∙ ap (λ x. is_at_most x c.args.other.now) (sym c.in-D.is)
