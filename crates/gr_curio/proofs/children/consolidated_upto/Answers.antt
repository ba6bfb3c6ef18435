use Rattle.std.proofs.Common.{◌≤◌, min, ap, ◌∙◌, arith}
use Rattle.gr_curio.proofs.ChildrenLemmas.{not_consolidated, front_consolidated, front_ends}
use Rattle.gr_curio.proofs.children.consolidated_upto.Goals as goal

pub returns-clause-stops : goal.returns-clause-stops
returns-clause-stops c = λ lt.
    not_consolidated c.args.horizon c.args.children.now 1 (c.acknowledged_from-front.ensures.steady 1 (omega arith) c.acknowledged_from-front.ensures.forward ∙ c.if-front.false)

pub returns-then-front-clause-each : goal.returns-then-front-clause-each
returns-then-front-clause-each c = λ t lo hi.
    let reach : t ≤ c.min-last.result = omega (arith, hi, c.acknowledged_from-front.ensures.inside) in
    front_consolidated c.args.horizon c.args.children.now c.args.limit c.min-last.result t (c.min-last.ensures ∙ ap (λ h. min h c.args.limit) c.unwrap_or.ensures) lo reach
    (c.acknowledged_from-front.ensures.steady t lo hi ∙ c.if-front.true)

pub returns-then-front-clause-stops : goal.returns-then-front-clause-stops
returns-then-front-clause-stops c = λ lt.
    front_ends c.args.horizon c.args.children.now c.args.limit c.min-last.result c.acknowledged_from-front.result.last (c.min-last.ensures ∙ ap (λ h. min h c.args.limit) c.unwrap_or.ensures) c.acknowledged_from-front.ensures.inside c.acknowledged_from-front.ensures.greatest
    (c.acknowledged_from-front.ensures.steady 1 (omega arith) c.acknowledged_from-front.ensures.forward ∙ c.if-front.true) lt
