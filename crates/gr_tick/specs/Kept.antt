-- What a contract sees of a stream.
use Rattle.std.specs.Prelude.{ℕ, List}
use Rattle.gr_tick.specs.declared.run.Run.{Run}

-- the runs, and how many more fit before memory is asked for
pub record Kept (V : Type 0) : Type 0 where
  pub runs : List (Run V)
  pub spare : ℕ
