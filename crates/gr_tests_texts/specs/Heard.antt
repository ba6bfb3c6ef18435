-- What a caller of a merge knows of it
use Rattle.std.specs.Prelude.{◌≡◌, ℕ, ◌≤◌, List, length, get_or}
use Rattle.std.specs.List.{AllByRecursion}
use Rattle.gr_order.specs.Merge.{MergeView}

-- how far each publisher was heard, and a tick past which nothing of it waits
pub record IsHeard (m : MergeView) (heard latest : List ℕ) : Type 0 where
  pub horizons : m.horizons ≡ heard
  pub places : length latest ≡ length heard
  pub waiting : AllByRecursion (λ i. i.tick ≤ get_or latest i.publisher 0) m.waiting
