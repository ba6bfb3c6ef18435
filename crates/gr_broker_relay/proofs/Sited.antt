-- A child of a site is the child at its place in the tree, and the edge to it has what the subscribers at it and beyond want.
use Rattle.std.proofs.Common.{◌≡◌, ℕ, zero, suc, ◌<◌, List, [], ◌∷◌, length, get_or, refl, sym, ap, ◌∙◌, subst, arith}
use Rattle.std.specs.List.{AllByRecursion}
use Rattle.std.proofs.lemmas.List.{length-map, get_or-map}
use Rattle.gr_edge.specs.Pass.{Wanting}
use Rattle.gr_topo.specs.Topology.{TopologyView, children_of}
use Rattle.gr_broker_relay.specs.declared.place.Child.{Child}
use Rattle.gr_broker_relay.specs.declared.place.Position.{Position}
use Rattle.gr_broker_relay.specs.Held.{seen_branch, HasEdges}
use Rattle.gr_broker_relay.specs.Branch.{branch_of, wantings_below}

-- what holds of each element holds of the one that is read
holds_at : {X : Type 0} (P : X → Type 0) (xs : List X) (i : ℕ) (x : X) → i < length xs → x ≡ get_or xs i x → AllByRecursion P xs → P x
holds_at P [] i x lt e h = absurd (omega (arith, lt))
holds_at P (y ∷ ys) zero x lt e h = subst P (sym e) h.0
holds_at P (y ∷ ys) (suc i) x lt e h = holds_at P ys i x (omega (arith, lt)) e h.1

-- there are as many children
pub children_many : (t : TopologyView) (b p : ℕ) (edges : List (List Wanting)) (place : Position) → seen_branch edges place ≡ branch_of t b p → length place.children.items ≡ length (children_of t p b)
children_many t b p edges place e = sym (length-map place.children.items (λ c. c.number)) ∙ ap (λ x. length x.children) e

-- the child that is read at a place has the number of that place
pub child_number : (t : TopologyView) (b p i : ℕ) (edges : List (List Wanting)) (place : Position) (c : Child) → seen_branch edges place ≡ branch_of t b p → i < length place.children.items → c ≡ get_or place.children.items i c → c.number ≡ get_or (children_of t p b) i 0
child_number t b p i edges place c e lt r =
    ap (λ x. x.number) r ∙ sym (get_or-map (λ x. x.number) place.children.items i c 0 lt) ∙ ap (λ x. get_or x.children i 0) e

-- its edge is one of the broker's
pub child_has_edge : (i : ℕ) (edges : List (List Wanting)) (place : Position) (c : Child) → HasEdges edges place → i < length place.children.items → c ≡ get_or place.children.items i c → c.edge < length edges
child_has_edge i edges place c h lt r = holds_at (λ x. x.edge < length edges) place.children.items i c lt r h

-- and has what the subscribers below it want
pub edge_below : (t : TopologyView) (b p i : ℕ) (edges : List (List Wanting)) (place : Position) (c : Child) (d : List Wanting) → seen_branch edges place ≡ branch_of t b p → HasEdges edges place → i < length place.children.items → c ≡ get_or place.children.items i c →
    get_or edges c.edge d ≡ wantings_below t p (get_or (children_of t p b) i 0)
edge_below t b p i edges place c d e h lt r =
    get_or_any edges c.edge d [] (child_has_edge i edges place c h lt r)
    ∙ ap (λ x. get_or edges x.edge []) r ∙ sym (get_or-map (λ x. get_or edges x.edge []) place.children.items i c [] lt) ∙ ap (λ x. get_or x.edges i []) e
    ∙ get_or-map (wantings_below t p) (children_of t p b) i 0 [] (subst (λ n. i < n) (children_many t b p edges place e) lt)
  where
    get_or_any : {X : Type 0} (xs : List X) (i : ℕ) (x y : X) → i < length xs → get_or xs i x ≡ get_or xs i y
    get_or_any [] i x y lt = absurd (omega (arith, lt))
    get_or_any (z ∷ zs) zero x y lt = refl
    get_or_any (z ∷ zs) (suc i) x y lt = get_or_any zs i x y (omega (arith, lt))

-- so has the edge that is read there
pub child_edge : (t : TopologyView) (b p i : ℕ) (edges : List (List Wanting)) (place : Position) (c : Child) (edge : List Wanting) → seen_branch edges place ≡ branch_of t b p → HasEdges edges place → i < length place.children.items → c ≡ get_or place.children.items i c →
    edge ≡ get_or edges c.edge edge → edge ≡ wantings_below t p (get_or (children_of t p b) i 0)
child_edge t b p i edges place c edge e h lt r read = read ∙ edge_below t b p i edges place c edge e h lt r
