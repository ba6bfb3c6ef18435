-- The tests on two curiosity values and on two moments are true at equals alone, and at all equals
use Rattle.std.proofs.Common.{◌≡◌, true, refl, ap}
use Rattle.std.proofs.lemmas.Bool.{false≢true, eqb-true, eq-eqb}
use Rattle.gr_tick.specs.Runs.{Decides_same}
use Rattle.gr_tick.proofs.RunLaws.{Tells, Tells-decides}
use Rattle.gr_curio.specs.declared.asks.Moment.{Moment}
use Rattle.gr_curio.specs.declared.asks.Moment.TheVariants.{Never, At}
use Rattle.gr_curio.specs.declared.values.Q3.{Q3}
use Rattle.gr_curio.specs.declared.values.Q3.TheVariants.{N, C, A}
use Rattle.gr_curio.specs.Values.{same_Q3, same_moment}

pub same_Q3_tells : Tells same_Q3
same_Q3_tells = record { equal = equal; itself = itself }
  where
    equal : (a b : Q3) → same_Q3 a b ≡ true → a ≡ b
    equal N N h = refl
    equal C C h = refl
    equal A A h = refl
    equal N C h = absurd (false≢true h)
    equal N A h = absurd (false≢true h)
    equal C N h = absurd (false≢true h)
    equal C A h = absurd (false≢true h)
    equal A N h = absurd (false≢true h)
    equal A C h = absurd (false≢true h)

    itself : (a : Q3) → same_Q3 a a ≡ true
    itself N = refl
    itself C = refl
    itself A = refl

pub same_moment_tells : Tells same_moment
same_moment_tells = record { equal = equal; itself = itself }
  where
    equal : (a b : Moment) → same_moment a b ≡ true → a ≡ b
    equal Never Never h = refl
    equal (At a) (At b) h = ap At (eqb-true a b h)
    equal Never (At b) h = absurd (false≢true h)
    equal (At a) Never h = absurd (false≢true h)

    itself : (a : Moment) → same_moment a a ≡ true
    itself Never = refl
    itself (At a) = eq-eqb a a refl

pub Q3_decides : Decides_same same_Q3
Q3_decides = Tells-decides same_Q3 same_Q3_tells

pub moment_decides : Decides_same same_moment
moment_decides = Tells-decides same_moment same_moment_tells
