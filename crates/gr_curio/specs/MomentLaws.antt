-- The moments are a lattice, since numbers are in order
use Rattle.std.specs.Prelude.{◌≡◌, max, true, refl}
use Rattle.std.proofs.Common.{ap}
use Rattle.std.proofs.lemmas.Bool.{leb-true, le-leb, false≢true}
use Rattle.std.proofs.Math.Nat.{le_refl, le_trans, le_antisymm, le-max_left, le-max_right, max-le}
use Rattle.gr_tick.specs.Laws.{LatticeLaws}
use Rattle.gr_curio.specs.Moments.{is_at_most, later_of}
use Rattle.gr_curio.specs.declared.asks.Moment.{Moment}
use Rattle.gr_curio.specs.declared.asks.Moment.TheVariants.{Never, At}

reflexive : (x : Moment) → is_at_most x x ≡ true
reflexive Never = refl
reflexive (At m) = le-leb m m (le_refl m)

antisymmetric : (x y : Moment) → is_at_most x y ≡ true → is_at_most y x ≡ true → x ≡ y
antisymmetric Never Never h k = refl
antisymmetric (At m) (At n) h k = ap At (le_antisymm (leb-true m n h) (leb-true n m k))
antisymmetric Never (At n) h k = absurd (false≢true k)
antisymmetric (At m) Never h k = absurd (false≢true h)

transitive : (x y z : Moment) → is_at_most x y ≡ true → is_at_most y z ≡ true → is_at_most x z ≡ true
transitive Never y z h k = refl
transitive (At m) (At n) (At o) h k = le-leb m o (le_trans (leb-true m n h) (leb-true n o k))
transitive (At m) Never z h k = absurd (false≢true h)
transitive (At m) (At n) Never h k = absurd (false≢true k)

above_left : (x y : Moment) → is_at_most x (later_of x y) ≡ true
above_left Never y = refl
above_left (At m) Never = le-leb m m (le_refl m)
above_left (At m) (At n) = le-leb m (max m n) (le-max_left m n)

above_right : (x y : Moment) → is_at_most y (later_of x y) ≡ true
above_right Never y = reflexive y
above_right (At m) Never = refl
above_right (At m) (At n) = le-leb n (max m n) (le-max_right m n)

least_above : (x y z : Moment) → is_at_most x z ≡ true → is_at_most y z ≡ true → is_at_most (later_of x y) z ≡ true
least_above Never y z h k = k
least_above (At m) Never z h k = h
least_above (At m) (At n) (At o) h k = le-leb (max m n) o (max-le (leb-true m o h) (leb-true n o k))
least_above (At m) (At n) Never h k = absurd (false≢true h)

pub moment_laws : LatticeLaws Never later_of is_at_most
moment_laws = record {
  reflexive = reflexive;
  antisymmetric = antisymmetric;
  transitive = transitive;
  lowest = λ x. refl;
  above_left = above_left;
  above_right = above_right;
  least_above = least_above;
}
