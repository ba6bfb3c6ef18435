-- What is seen of values in a row.
use Rattle.std.specs.Prelude.{List, [], ◌∷◌}
use Rattle.gr_tick.specs.declared.row.Values.{Values}
use Rattle.gr_tick.specs.declared.row.Values.TheVariants.{None, Alone, Many}

-- the values in order
pub record Listed (T : Type 0) : Type 0 where
  pub items : List T

abbrev pub listed : {T : Type 0} → Values T → Listed T
listed None = record { items = [] }
listed (Alone x) = record { items = x ∷ [] }
listed (Many xs) = record { items = xs.items }

-- one value stands alone
abbrev pub IsAlone : {T : Type 0} → Values T → Type 0
IsAlone None = ⊥
IsAlone (Alone x) = Unit {0}
IsAlone (Many xs) = ⊥
