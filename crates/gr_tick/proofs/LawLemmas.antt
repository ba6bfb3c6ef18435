-- What follows from the laws of a lattice.
use Rattle.std.proofs.Common.{◌≡◌, ◌≢◌, Bool, true, false, cond, refl, sym, ap, ◌∙◌, subst}
use Rattle.gr_tick.specs.Laws.{LatticeLaws}

module _ {V : Type 0} (least : V) (join_of : V → V → V) (is_at_most : V → V → Bool) (laws : LatticeLaws least join_of is_at_most) where
  pub join_least : (v : V) → join_of least v ≡ v
  join_least v =
      laws.antisymmetric (join_of least v) v (laws.least_above least v v (laws.lowest v) (laws.reflexive v)) (laws.above_right least v)

  pub join-least : (v : V) → join_of v least ≡ v
  join-least v =
      laws.antisymmetric (join_of v least) v (laws.least_above v least v (laws.reflexive v) (laws.lowest v)) (laws.above_left v least)

  -- a join with a known value is known
  pub join_known : (x v : V) → x ≢ least → join_of x v ≢ least
  join_known x v known e =
      known (laws.antisymmetric x least (subst (λ y. is_at_most x y ≡ true) e (laws.above_left x v)) (laws.lowest x))

  -- a join with the least value changes nothing
  pub unjoined : (b : Bool) (x v : V) → v ≡ least → x ≡ cond b (join_of x v) x
  unjoined true x v e = sym (ap (join_of x) e ∙ join-least x)
  unjoined false x v e = refl
