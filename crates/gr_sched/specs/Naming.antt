-- How a schedule's names are known
use Rattle.std.specs.Prelude.{ℕ, List, Option}

-- the numbers of brokers and publishers by their names, and of the subscribers that may join, the late ones alone
pub record Naming : Type 0 where
  pub broker : List ℕ → Option ℕ
  pub publisher : List ℕ → Option ℕ
  pub joiner : List ℕ → Option ℕ
