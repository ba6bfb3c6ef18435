use Rattle.std.proofs.Common.{◌≡◌, ◌<◌, ◌-◌, length, Some, subst, arith}
use Rattle.std.specs.Prelude.{slice_get}
use Rattle.std.proofs.lemmas.Bool.{leb-true}
use Rattle.gr_subend.proofs.Handing.{lies}
use Rattle.gr_subend.proofs.subend.lies_within.Goals as goal

pub returns-then-past-first : goal.returns-then-past-first
returns-then-past-first c = λ ends.
    let piece = c.args.piece.now in
    let some : 0 < length piece = omega (arith, c.if-count-eq0.false, c.len-count.ensures.len) in
    let last : slice_get piece (length piece - 1) ≡ Some c.run-last.result.now = subst (λ n. slice_get piece (n - 1) ≡ Some c.run-last.result.now) c.len-count.ensures.len c.run-last.ensures.run in
    lies c.args.past c.args.upto piece c.run-first.result.now c.run-last.result.now c.len-count.ensures.canonical c.len-count.ensures.in_range some c.run-first.ensures.run last c.if-past-first.true (leb-true _ _ ends)
