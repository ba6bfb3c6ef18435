-- What the machine asks of a topology that was read is what the topology and the edges say in their own words
use Rattle.std.proofs.Common.{◌≡◌, ℕ, Bool, true, false, ◌&&◌, List, Option, Some, None, refl, sym, ap}
use Rattle.gr_event.specs.declared.event.Event.{Event}
use Rattle.gr_event.specs.Joins.{Joins}
use Rattle.gr_filter.specs.Tree.{Tree}
use Rattle.gr_filter.specs.Truth.{matches}
use Rattle.gr_know.specs.declared.values.K.{K}
use Rattle.gr_know.specs.declared.values.K.TheVariants.{Q, S, D, F}
use Rattle.gr_edge.specs.Pass as edge
use Rattle.gr_topo.specs.Topology.{TopologyView, passes_filter, keeps_horizon_at}
use Rattle.gr_model.specs.Net.{Net, keeps_horizon, wanted_below, pass}
use Rattle.gr_model.specs.NetOf.{net_of}

-- a broker keeps a horizon exactly where the topology says so
pub keeps_horizon_of : (t : TopologyView) (p b : ℕ) → keeps_horizon (net_of t) p b ≡ keeps_horizon_at t p b
keeps_horizon_of t p b = refl

-- a filter passes what a subscriber in time wants at an edge
pub filter_passes : (f : Option Tree) (e : Event) → passes_filter f e ≡ (edge.wants f e && true)
filter_passes None e = refl
filter_passes (Some tree) e = sym (and_true (matches tree e))
  where
    and_true : (b : Bool) → (b && true) ≡ b
    and_true true = refl
    and_true false = refl

-- what passes an edge of any net whose subscribers below want what these want
pub pass_is : (net : Net) (ws : List edge.Wanting) (js : Joins) (p c t : ℕ) → ((e : Event) → wanted_below net p c t e ≡ edge.wanted ws js t e) → (k : K) → pass net p c t k ≡ edge.pass ws js t k
pass_is net ws js p c t h Q = refl
pass_is net ws js p c t h S = refl
pass_is net ws js p c t h F = refl
pass_is net ws js p c t h (D e) = ap pick (h e)
  where
    pick : Bool → K
    pick q = elim q [ true ↦ D e | false ↦ S ]
