-- The machine's topology of one that was read
use Rattle.std.specs.Prelude.{◌≡◌, ℕ, ◌<◌, ◌≤◌, true, nat_eq, List, [], ◌∷◌, length, None, is_some}
use Rattle.std.specs.List.{list_any}
use Rattle.gr_topo.specs.Topology.{TopologyView, host_of, client_of, home_of, up_at, depth_at, children_of}
use Rattle.gr_topo.specs.Topology.{subscribers_of, below_of, wants}
use Rattle.gr_model.specs.Net.{Net}
use Rattle.gr_model.specs.Tree.{IsDistinct}

abbrev pub net_of : TopologyView → Net
net_of t = record {
  brokers = length t.brokers;
  publishers = length t.publishers;
  subscribers = length t.subscribers;
  host = host_of t;
  client = λ p. is_some (client_of t p);
  at = home_of t;
  up = up_at t;
  children = children_of t;
  subscribers_at = subscribers_of t;
  below = below_of t;
  late = t.late;
  depth = depth_at t;
  wants = λ p s u e. wants t s e;
  gap = t.settings.gap;
  idle = t.settings.idle;
  retry = t.settings.retry;
  quiet = t.settings.quiet;
  cache = t.settings.cache;
  reclaim = t.settings.reclaim;
}

-- each number is less than all that follow it
abbrev pub IsRising : List ℕ → Type 0
IsRising [] = Unit {0}
IsRising (x ∷ xs) = ((y : ℕ) → list_any (λ z. nat_eq z y) xs ≡ true → x < y) × IsRising xs

-- what holds of a topology that was read besides being a tree
pub record IsOrderly (net : Net) : Type 0 where
  pub host_up : (p : ℕ) → p < net.publishers → net.up p (net.host p) ≡ None
  pub host_depth : (p : ℕ) → p < net.publishers → net.depth p (net.host p) ≡ 0
  pub children_distinct : (p b : ℕ) → IsDistinct (net.children p b)
  pub children_rising : (p b : ℕ) → IsRising (net.children p b)
  pub subscribers_rising : (b : ℕ) → IsRising (net.subscribers_at b)
  pub subscribers_in : (b s : ℕ) → list_any (λ x. nat_eq x s) (net.subscribers_at b) ≡ true → s < net.subscribers
  pub below_distinct : (p b : ℕ) → IsDistinct (net.below p b)
  pub below_rising : (p b : ℕ) → IsRising (net.below p b)
  pub below_in : (p b s : ℕ) → list_any (λ x. nat_eq x s) (net.below p b) ≡ true → s < net.subscribers
  pub gap : 1 ≤ net.gap
  pub idle : 1 ≤ net.idle
  pub retry : 1 ≤ net.retry
  pub quiet : 1 ≤ net.quiet
  pub cache : 1 ≤ net.cache
