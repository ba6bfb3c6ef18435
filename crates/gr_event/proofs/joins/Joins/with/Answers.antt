-- The new list is the old one with the join behind it
use Rattle.std.proofs.Common.{◌++◌, ◌∷◌, [], ◌∙◌, ap, subst, sym, arith}
use Rattle.gr_event.specs.Joins.{AreJoins}
use Rattle.gr_event.proofs.Joining.{joins_with}
use Rattle.gr_event.proofs.joins.Joins.with.Goals as goal

pub invariant_of-result : goal.invariant_of-result
invariant_of-result c =
    let pushed = c.in_ok-push.ensures.ok ∙ ap (λ xs. xs ++ c.args.join ∷ []) (c.in_ok-items.ensures.ok ∙ c.as_slice.ensures.slice) in
    subst AreJoins (sym (ap (λ v. v.items) c.in_ok-new.ensures ∙ pushed)) (joins_with c.args.self.now c.args.join c.as_slice.ensures.joins c.requires (omega arith))
