-- When a topology is a tree: what its parts say of one another
use Rattle.std.specs.Prelude.{◌≡◌, ℕ, suc, ◌<◌, Bool, true, false, nat_eq, List, [], ◌∷◌, Some}
use Rattle.std.specs.List.{list_any}
use Rattle.gr_model.specs.Net.{Net, is_host}

-- the subscriber is at the broker or beyond it
abbrev pub is_below : Net → ℕ → ℕ → ℕ → Bool
is_below net p b s = list_any (λ x. nat_eq x s) (net.below p b)

-- a subscriber of the topology
pub record IsSubscriber (net : Net) (s : ℕ) : Type 0 where
  pub at_in : net.at s < net.brokers
  pub here : list_any (λ x. nat_eq x s) (net.subscribers_at (net.at s)) ≡ true

-- what the truth needs of a broker's place in the tree
pub record IsPlace (net : Net) (p b : ℕ) : Type 0 where
  pub child_below : (c s : ℕ) → list_any (λ x. nat_eq x c) (net.children p b) ≡ true → is_below net p c s ≡ true
      → is_below net p b s ≡ true
  pub child_not_host : (c : ℕ) → list_any (λ x. nat_eq x c) (net.children p b) ≡ true → is_host net p c ≡ false
  pub split : (s : ℕ) → is_below net p b s ≡ true → list_any (λ x. nat_eq x s) (net.subscribers_at b) ≡ false → (c : ℕ)
      × (list_any (λ x. nat_eq x c) (net.children p b) ≡ true) × (is_below net p c s ≡ true)

-- no number stands twice
abbrev pub IsDistinct : List ℕ → Type 0
IsDistinct [] = Unit {0}
IsDistinct (x ∷ xs) = (list_any (λ y. nat_eq y x) xs ≡ false) × IsDistinct xs

-- the tree of brokers, seen from the host of each publisher
pub record IsNet (net : Net) : Type 0 where
  pub place : (p b : ℕ) → p < net.publishers → b < net.brokers → IsPlace net p b
  pub depth_in : (p b : ℕ) → p < net.publishers → b < net.brokers → net.depth p b < net.brokers
  pub host_in : (p : ℕ) → p < net.publishers → net.host p < net.brokers
  pub child_in : (p b c : ℕ) → p < net.publishers → b < net.brokers → list_any (λ x. nat_eq x c) (net.children p b)
      ≡ true → c < net.brokers
  pub up_in : (p b u : ℕ) → p < net.publishers → b < net.brokers → net.up p b ≡ Some u → (u < net.brokers)
      × (list_any (λ x. nat_eq x b) (net.children p u) ≡ true)
  pub distinct : (b : ℕ) → b < net.brokers → IsDistinct (net.subscribers_at b)
  pub here_below : (p b s : ℕ) → p < net.publishers → b < net.brokers
      → list_any (λ x. nat_eq x s) (net.subscribers_at b) ≡ true → is_below net p b s ≡ true
  pub all_below : (p s : ℕ) → p < net.publishers → net.at s < net.brokers
      → list_any (λ x. nat_eq x s) (net.subscribers_at (net.at s)) ≡ true → is_below net p (net.host p) s ≡ true
  pub here_at : (b s : ℕ) → b < net.brokers → list_any (λ x. nat_eq x s) (net.subscribers_at b) ≡ true → net.at s ≡ b
  pub depth_up : (p b u : ℕ) → p < net.publishers → b < net.brokers → net.up p b ≡ Some u → net.depth p b
      ≡ suc (net.depth p u)
  pub children_once : (p b : ℕ) → p < net.publishers → b < net.brokers → IsDistinct (net.children p b)
  pub subscriber : (s : ℕ) → s < net.subscribers → IsSubscriber net s
  pub up_below : (p b : ℕ) → p < net.publishers → b < net.brokers → is_host net p b ≡ false → (u : ℕ)
      × (net.up p b ≡ Some u)
  pub child_up : (p b c : ℕ) → p < net.publishers → b < net.brokers → list_any (λ x. nat_eq x c) (net.children p b)
      ≡ true → net.up p c ≡ Some b
