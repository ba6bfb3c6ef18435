-- A text to whose end something was put.
use Rattle.std.specs.Prelude.{◌≡◌, ℕ, List, ◌++◌}

-- the new text is the old one and something behind it
pub record Grows (old new : List ℕ) : Type 0 where
  pub part : List ℕ
  pub whole : new ≡ old ++ part
