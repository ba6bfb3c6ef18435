use Rattle.std.proofs.Common.{◌≤◌, sym, ◌∙◌, arith}
use Rattle.std.proofs.lemmas.Bool.{leb-true}
use Rattle.gr_broker_walks.proofs.walks.is_unwanted.Goals as goal

pub returns : goal.returns
returns c = λ yes t lo hi.
    let inside : c.args.last ≤ c.steady_at-wanted.result.last = leb-true c.args.last c.steady_at-wanted.result.last yes in
    c.steady_at-wanted.ensures.steady t lo (omega (arith, hi, inside)) ∙ sym c.steady_at-wanted.ensures.value ∙ c.is_bottom.ensures.0 c.if-not-is_bottom.false
