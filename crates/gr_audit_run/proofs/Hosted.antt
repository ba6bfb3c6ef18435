-- The brokers of a process are brokers of the topology, in rising order
use Rattle.std.proofs.Common.{ℕ, zero, suc, ◌+◌, ◌<◌, ◌≤◌, Bool, true, false, List, ◌∷◌, cond, filter, length, arith}
use Rattle.std.specs.List.{AllByRecursion}
use Rattle.gr_tree.specs.Walks.{numbers_from}
use Rattle.gr_topo.specs.Topology.{TopologyView}
use Rattle.gr_journal.specs.Lines.{is_among, rising}
use Rattle.gr_model.proofs.NetOf.{rising_from}
use Rattle.gr_node.specs.Of.{AreHosted}

-- consecutive numbers are below where they end
within : (t : TopologyView) (test : ℕ → Bool) (from k : ℕ) → from + k ≤ length t.brokers → AllByRecursion (λ b. b < length t.brokers) (filter test (numbers_from from k))
within t test from zero h = tt
within t test from (suc k) h = go (test from) (within t test (suc from) k (omega arith))
  where
    go : (b : Bool) → AllByRecursion (λ c. c < length t.brokers) (filter test (numbers_from (suc from) k))
        → AllByRecursion (λ c. c < length t.brokers) (cond b (from ∷ filter test (numbers_from (suc from) k)) (filter test (numbers_from (suc from) k)))
    go true rest = (omega arith, rest)
    go false rest = rest

pub rising_hosted : (t : TopologyView) (named : List ℕ) → AreHosted t (rising t named)
rising_hosted t named = record {
  rising = rising_from (is_among named) 0 (length t.brokers);
  brokers = within t (is_among named) 0 (length t.brokers) (omega arith);
}
