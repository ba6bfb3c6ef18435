-- What is seen of blocks in a row.
use Rattle.std.specs.Prelude.{ℕ, List, [], ◌∷◌}

-- the values in order, and how many blocks there are
pub record Row (T : Type 0) : Type 0 where
  pub items : List T
  pub blocks : ℕ

-- the first of the rows, or an empty one where there is none
abbrev pub row_in : {T : Type 0} → List (Row T) → Row T
row_in [] = record { items = []; blocks = 0 }
row_in (r ∷ rs) = r
