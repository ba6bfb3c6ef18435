-- The curiosity values are a lattice, by cases
use Rattle.std.specs.Prelude.{◌≡◌, true, refl}
use Rattle.std.proofs.lemmas.Bool.{false≢true}
use Rattle.gr_tick.specs.Laws.{LatticeLaws}
use Rattle.gr_curio.specs.Order.{is_at_most, greater_of}
use Rattle.gr_curio.specs.declared.values.Q3.{Q3}
use Rattle.gr_curio.specs.declared.values.Q3.TheVariants.{N, C, A}

reflexive : (x : Q3) → is_at_most x x ≡ true
reflexive N = refl
reflexive C = refl
reflexive A = refl

antisymmetric : (x y : Q3) → is_at_most x y ≡ true → is_at_most y x ≡ true → x ≡ y
antisymmetric N N h k = refl
antisymmetric C C h k = refl
antisymmetric A A h k = refl
antisymmetric N C h k = absurd (false≢true k)
antisymmetric N A h k = absurd (false≢true k)
antisymmetric C N h k = absurd (false≢true h)
antisymmetric C A h k = absurd (false≢true k)
antisymmetric A N h k = absurd (false≢true h)
antisymmetric A C h k = absurd (false≢true h)

transitive : (x y z : Q3) → is_at_most x y ≡ true → is_at_most y z ≡ true → is_at_most x z ≡ true
transitive N y z h k = refl
transitive C C z h k = k
transitive C A A h k = refl
transitive A A z h k = k
transitive C N z h k = absurd (false≢true h)
transitive C A N h k = absurd (false≢true k)
transitive C A C h k = absurd (false≢true k)
transitive A N z h k = absurd (false≢true h)
transitive A C z h k = absurd (false≢true h)

above_left : (x y : Q3) → is_at_most x (greater_of x y) ≡ true
above_left N y = refl
above_left C N = refl
above_left C C = refl
above_left C A = refl
above_left A y = refl

above_right : (x y : Q3) → is_at_most y (greater_of x y) ≡ true
above_right N y = reflexive y
above_right C N = refl
above_right C C = refl
above_right C A = refl
above_right A N = refl
above_right A C = refl
above_right A A = refl

least_above : (x y z : Q3) → is_at_most x z ≡ true → is_at_most y z ≡ true → is_at_most (greater_of x y) z ≡ true
least_above N y z h k = k
least_above C N z h k = h
least_above C C z h k = h
least_above C A z h k = k
least_above A y z h k = h

pub curiosity_laws : LatticeLaws N greater_of is_at_most
curiosity_laws = record {
  reflexive = reflexive;
  antisymmetric = antisymmetric;
  transitive = transitive;
  lowest = λ x. refl;
  above_left = above_left;
  above_right = above_right;
  least_above = least_above;
}
