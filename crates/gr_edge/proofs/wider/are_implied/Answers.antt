use Rattle.std.proofs.Common.{sym, subst, rules, w64, to_z, of_z}
use Rattle.std.proofs.lemmas.Int.{to_z-of_z}
use Rattle.gr_filter.specs.declared.node.Operand.TheVariants as operand
use Rattle.gr_edge.specs.Following.{Follows}
use Rattle.gr_edge.proofs.Widening.{of_integers_read}
use Rattle.gr_edge.proofs.wider.are_implied.Goals as goal

pub returns-in-Some-integer : goal.returns-in-Some-integer
returns-in-Some-integer c =
    let sign = c.args.sign in
    let other = c.args.other in
    let k = c.in-Some.k in
    let n = c.in-Some-integer.n in
    λ h. of_integers_read sign other c.args.wide.now c.args.narrow.now k n (sym c.in-Some.ensures) (sym c.in-Some-integer.ensures)
    (subst (λ x. Follows sign (operand.Int x) other (operand.Int n)) (to_z-of_z w64 k (search rules))
    (subst (λ y. Follows sign (operand.Int (to_z w64 (of_z w64 k))) other (operand.Int y)) (to_z-of_z w64 n (search rules)) (c.are_ordered.ensures h)))
