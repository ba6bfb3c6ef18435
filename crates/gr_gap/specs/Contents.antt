-- What a contract sees of a gap buffer.
use Rattle.std.specs.Prelude.{ℕ, List}

-- the values in order, and how many more fit before memory is asked for
pub record Contents (T : Type 0) : Type 0 where
  pub items : List T
  pub spare : ℕ
