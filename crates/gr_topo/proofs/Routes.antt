-- A walk up the path to the host, a broker at a time
use Rattle.std.proofs.Common.{◌≡◌, ℕ, zero, suc, ◌<◌, false, ◌||◌, nat_eq, List, [], ◌∷◌, length, Option, Some, None, refl, sym, ap, ◌∙◌, arith, ne_eqb}
use Rattle.std.specs.List.{list_any}
use Rattle.gr_tree.specs.declared.link.Link.{Link}
use Rattle.gr_tree.specs.Walks.{distance, up_of, onward, steps_up, path_of}
use Rattle.gr_topo.specs.Topology.{TopologyView, size, host_of, up_at, depth_at, passes_by, IsTopology}

path_next : (n : ℕ) (links : List Link) (root x u : ℕ) → up_of n links root x ≡ Some u → distance n links root x ≡ suc (distance n links root u) → path_of n links root x ≡ u ∷ path_of n links root u
unfolding path_of
path_next n links root x u e d = ap (λ k. steps_up (up_of n links root) k x) d ∙ ap (λ o. onward o (steps_up (up_of n links root) (distance n links root u))) e

no_path : (up : ℕ → Option ℕ) (k x : ℕ) → up x ≡ None → steps_up up k x ≡ []
no_path up zero x e = refl
no_path up (suc k) x e = ap (λ o. onward o (steps_up up k)) e

path_last : (n : ℕ) (links : List Link) (root x : ℕ) → up_of n links root x ≡ None → path_of n links root x ≡ []
unfolding path_of
path_last n links root x e = no_path (up_of n links root) (distance n links root x) x e

-- what the next broker of a broker is
pub next_in : (t : TopologyView) (p x u : ℕ) → IsTopology t → p < length t.publishers → x < length t.brokers → up_at t p x ≡ Some u → (u < length t.brokers) × (depth_at t p u < depth_at t p x)
next_in t p x u is lt within e = let h = (is.rooted p lt).up_in x u within e in (h.0, omega (arith, h.2))

-- past a broker that is another, the rest of the path decides
pub passes_on : (t : TopologyView) (p b x u : ℕ) → IsTopology t → p < length t.publishers → x < length t.brokers → (x ≡ b → ⊥) → up_at t p x ≡ Some u → passes_by t p b u ≡ passes_by t p b x
passes_on t p b x u is lt within other e =
    let h = (is.rooted p lt).up_in x u within e in
    sym (ap (λ v. v || list_any (λ y. nat_eq y b) (path_of (size t) t.links (host_of t p) x)) (ne_eqb x b other)
    ∙ ap (λ l. list_any (λ y. nat_eq y b) l) (path_next (size t) t.links (host_of t p) x u e h.2))

pub passes_not : (t : TopologyView) (p b x : ℕ) → (x ≡ b → ⊥) → up_at t p x ≡ None → passes_by t p b x ≡ false
passes_not t p b x other e =
    ap (λ v. v || list_any (λ y. nat_eq y b) (path_of (size t) t.links (host_of t p) x)) (ne_eqb x b other)
    ∙ ap (λ l. list_any (λ y. nat_eq y b) l) (path_last (size t) t.links (host_of t p) x e)
