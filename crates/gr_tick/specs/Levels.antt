-- Numbers with their order as a lattice of values: the greater of two is their join.
use Rattle.std.specs.Prelude.{max, nat_le}
use Rattle.std.proofs.Math.Dec.{leb-zero}
use Rattle.std.proofs.Math.Nat.{le_refl, le_antisymm, le_trans, le-max_left, le-max_right, max-le}
use Rattle.std.proofs.lemmas.Bool.{leb-true, le-leb}
use Rattle.gr_tick.specs.Laws.{LatticeLaws}

pub level_laws : LatticeLaws 0 max nat_le
level_laws = record {
  reflexive = λ x. le-leb x x (le_refl x);
  antisymmetric = λ x y h k. le_antisymm (leb-true x y h) (leb-true y x k);
  transitive = λ x y z h k. le-leb x z (le_trans (leb-true x y h) (leb-true y z k));
  lowest = λ x. leb-zero x;
  above_left = λ x y. le-leb x (max x y) (le-max_left x y);
  above_right = λ x y. le-leb y (max x y) (le-max_right x y);
  least_above = λ x y z h k. le-leb (max x y) z (max-le (leb-true x z h) (leb-true y z k));
}
