use Rattle.std.proofs.Common.{◌≡◌, ◌+◌, inl, inr, ⊎_elim, sym, ap, ◌∙◌, arith}
use Rattle.std.proofs.lemmas.Bool.{cases_lt, cond-true, cond-false}
use Rattle.gr_know.specs.declared.values.K.TheVariants.{F}
use Rattle.gr_know.specs.Values.{known_at}
use Rattle.gr_curio.specs.Values.{wanted_at, is_A}
use Rattle.gr_curio.specs.Wants.{runs_of, wants_of}
use Rattle.gr_broker_walks.proofs.walks.said_from.Goals as goal

pub returns-then-is_acknowledged-clause-greatest : goal.returns-then-is_acknowledged-clause-greatest
returns-then-is_acknowledged-clause-greatest c = λ lt. inr (c.steady_at-wanted.ensures.greatest lt)

pub returns-then-is_acknowledged-clause-steady : goal.returns-then-is_acknowledged-clause-steady
returns-then-is_acknowledged-clause-steady c = λ t lo hi.
    cond-true (is_A (wanted_at (wants_of (runs_of c.args.wants.now) c.args.child) t)) F (known_at c.args.know.now.runs t)
    (ap is_A (c.steady_at-wanted.ensures.steady t lo hi ∙ sym c.steady_at-wanted.ensures.value) ∙ sym c.is_acknowledged.ensures ∙ c.if-is_acknowledged.true)

pub returns-clause-greatest : goal.returns-clause-greatest
returns-clause-greatest c = λ less. ⊎_elim
    (λ lt.
    let same : c.min.result ≡ c.steady_at-value.result.last = omega (arith, c.min.ensures, lt) in
    inl (λ z. c.steady_at-value.ensures.greatest (omega (arith, less, same)) (ap (λ e. known_at c.args.know.now.runs (e + 1)) (sym same) ∙ z)))
    (λ le.
    let same : c.min.result ≡ c.steady_at-wanted.result.last = omega (arith, c.min.ensures, le) in
    inr (λ z. c.steady_at-wanted.ensures.greatest (omega (arith, less, same)) (ap (λ e. wanted_at (wants_of (runs_of c.args.wants.now) c.args.child) (e + 1)) (sym same) ∙ z)))
    (cases_lt c.steady_at-value.result.last c.steady_at-wanted.result.last)

pub returns-clause-steady : goal.returns-clause-steady
returns-clause-steady c = λ t lo hi.
    cond-false (is_A (wanted_at (wants_of (runs_of c.args.wants.now) c.args.child) t)) F (known_at c.args.know.now.runs t)
    (ap is_A (c.steady_at-wanted.ensures.steady t lo (omega (arith, hi, c.min.ensures)) ∙ sym c.steady_at-wanted.ensures.value) ∙ sym c.is_acknowledged.ensures ∙ c.if-is_acknowledged.false)
    ∙ c.steady_at-value.ensures.steady t lo (omega (arith, hi, c.min.ensures)) ∙ sym c.steady_at-value.ensures.value
