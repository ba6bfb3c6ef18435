use Rattle.std.proofs.Common.{◌≡◌, ℕ, ◌<◌, map, take, slice_index}
use Rattle.gr_tree.specs.Walks.{IsRooted, HasOnlyPaths, places_of}
use Rattle.gr_topo.proofs.topology.rows_of.Given as goal

abbrev pub invariant-loop-host : goal.invariant-loop-host
invariant-loop-host l = record {
  rows : map (λ r. r.items) l.rows.items ≡ map (places_of l.brokers l.links) (take l.host-index l.hosts);
  rooted : (p : ℕ) → p < l.host-index → IsRooted l.brokers l.links (slice_index l.hosts p);
  paths : (p : ℕ) → p < l.host-index → HasOnlyPaths l.brokers l.links (slice_index l.hosts p);
}
