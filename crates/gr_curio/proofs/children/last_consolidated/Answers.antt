use Rattle.std.proofs.Common.{◌≢◌, ◌<◌, length, inl, inr, sym, ap, ◌∙◌, arith}
use Rattle.std.proofs.lemmas.Bool.{cases_lt, eqb-false}
use Rattle.gr_curio.specs.Wants.{runs_of, is_consolidated}
use Rattle.gr_curio.proofs.ChildrenLemmas.{unacknowledged, unreached}
use Rattle.gr_curio.proofs.children.last_consolidated.Goals as goal

pub returns-else-is_empty-clause-past : goal.returns-else-is_empty-clause-past
returns-else-is_empty-clause-past c = λ t lt.
    let some : length c.args.children.now ≢ 0 = eqb-false (length c.args.children.now) 0 (sym c.is_empty.ensures ∙ c.if-is_empty.false) in
    let any : 0 < length c.args.children.now = omega (arith, some) in
    elim (cases_lt c.in-Some.reached t) [
      | inl gt ↦ ap (λ h. is_consolidated h (runs_of c.args.children.now) t) c.in-Some.is ∙ unreached c.in-Some.reached (runs_of c.args.children.now) t gt
      | inr le ↦ unacknowledged c.args.horizon c.args.children.now c.index-children-0.result c.top.result t any c.index-children-0.is c.top.ensures.past (omega (arith, le, lt, c.min.ensures))
    ]

pub returns-in-None-clause-past : goal.returns-in-None-clause-past
returns-in-None-clause-past c = λ t lt.
    unacknowledged c.args.horizon c.args.children.now c.index-children-0-in-None.result c.top-in-None.result t (c.requires.some c.in-None.is) c.index-children-0-in-None.is c.top-in-None.ensures.past lt
