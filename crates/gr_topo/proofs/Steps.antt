-- A reading that gave a value gave one at each of its steps
use Rattle.std.proofs.Common.{◌≡◌, List, [], ◌∷◌, Result, Ok, Err, refl, subst}
use Rattle.gr_topo.specs.declared.fault.TopoFault.{TopoFault}
use Rattle.gr_topo.specs.Gives.{◌>>=◌, walk}

-- what gave a value, step by step
pub first_gave : {A B : Type 0} (r : Result A TopoFault) (f : A → Result B TopoFault) (y : B) → (r >>= f) ≡ Ok y → (x : A) × (r ≡ Ok x) × (f x ≡ Ok y)
first_gave (Ok x) f y h = (x, refl, h)
first_gave (Err e) f y h = absurd (err_ok e y h)
  where
    err_ok : {B : Type 0} (e : TopoFault) (y : B) → Err e ≡ Ok y → ⊥
    err_ok e y h = cc

pub ok_same : {A : Type 0} (x y : A) → ◌≡◌ {A = Result A TopoFault} (Ok x) (Ok y) → x ≡ y
ok_same x y h = cc

-- what each step keeps, the whole reading keeps
pub walk_keeps : {S A : Type 0} (P : S → Type 0) (f : S → A → Result S TopoFault) → ((s : S) (x : A) (next : S) → P s → f s x ≡ Ok next → P next) → (xs : List A) (s r : S) → P s → walk f s xs ≡ Ok r → P r
unfolding walk
walk_keeps P f step [] s r p h = subst P (ok_same s r h) p
walk_keeps P f step (x ∷ xs) s r p h = let w = first_gave (f s x) (λ n. walk f n xs) r h in walk_keeps P f step xs w.0 r (step s x w.0 p w.1) w.2
