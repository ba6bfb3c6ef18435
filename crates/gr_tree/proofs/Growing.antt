-- The row of places grows by one node at a time, and each link that was used hangs one of its ends below the other
use Rattle.std.proofs.Common.{◌≡◌, ◌⊎◌, ℕ, zero, suc, ◌+◌, ◌<◌, ◌≤◌, true, false, ◌&&◌, not, List, [], ◌∷◌, length, get_or, set, replicate, Option, Some, None, refl, sym, ap, ◌∙◌, subst, inl, inr, ⊎_elim, arith}
use Rattle.std.specs.Option.{is_some, option_map}
use Rattle.std.specs.List.{remove}
use Rattle.std.proofs.lemmas.List.{length-set, get_or-set_same, get_or-set_other, length-replicate, get_or-replicate, get_or_past}
use Rattle.std.proofs.lemmas.List.Edits.{length-remove}
use Rattle.std.proofs.lemmas.List.Folds.{list_any_at}
use Rattle.std.proofs.lemmas.Bool.{false≢true, true≢false, or_cases, and_parts, cases_eq, cases_lt, cond-true, cond-false, not-true}
use Rattle.gr_tree.specs.declared.link.Link.{Link}
use Rattle.gr_tree.specs.declared.link.Place.{Place}
use Rattle.gr_tree.specs.Walks.{joins, is_linked, IsWithin}
use Rattle.gr_tree.specs.Search.{is_placed, crosses, below, attached}
use Rattle.gr_tree.proofs.Links.{joins_one, joins_other, joins_same, linked_kept, linked_back}

-- ---- how many nodes are placed

abbrev pub placed : List (Option Place) → ℕ
placed [] = 0
placed (None ∷ row) = placed row
placed (Some p ∷ row) = suc (placed row)

placed_more : (row : List (Option Place)) (i : ℕ) (p : Place) → i < length row → get_or row i None ≡ None → placed (set row i (Some p)) ≡ suc (placed row)
placed_more [] i p h e = absurd (omega arith)
placed_more (None ∷ row) zero p h e = refl
placed_more (Some q ∷ row) zero p h e = cc
placed_more (None ∷ row) (suc i) p h e = placed_more row i p (omega arith) e
placed_more (Some q ∷ row) (suc i) p h e = ap suc (placed_more row i p (omega arith) e)

pub placed_all : (row : List (Option Place)) → ((b : ℕ) → b < length row → is_placed row b ≡ true) → placed row ≡ length row
placed_all [] f = refl
placed_all (None ∷ row) f = absurd (false≢true (f 0 (omega arith)))
placed_all (Some p ∷ row) f = ap suc (placed_all row (λ b h. f (suc b) (omega arith)))

placed_none : (n : ℕ) → placed (replicate n None) ≡ 0
placed_none zero = refl
placed_none (suc n) = placed_none n

-- ---- the row

-- the place of the root
abbrev pub top : Place
top = record { up = None; depth = 0 }

-- a node that is placed is the root, or hangs one link below another
abbrev pub IsKnown : List (Option Place) → List Link → ℕ → ℕ → ℕ → Option ℕ → Type 0
IsKnown row links root b d None = (b ≡ root) × (d ≡ 0)
IsKnown row links root b d (Some u) = (q : Place) × (get_or row u None ≡ Some q) × (d ≡ suc q.depth) × (is_linked links b u ≡ true)

-- a is placed directly below u
abbrev pub IsUp : List (Option Place) → ℕ → ℕ → Type 0
IsUp row a u = (p : Place) × (get_or row a None ≡ Some p) × (p.up ≡ Some u)

pub record Grown (n : ℕ) (links : List Link) (root : ℕ) (row : List (Option Place)) (left : List Link) : Type 0 where
  pub size : length row ≡ n
  pub at_root : get_or row root None ≡ Some top
  pub known : (b : ℕ) (p : Place) → get_or row b None ≡ Some p → IsKnown row links root b p.depth p.up
  pub settled : (a b : ℕ) → is_linked links a b ≡ true → (is_linked left a b ≡ true) ⊎ (IsUp row a b ⊎ IsUp row b a)
  pub inside : (a b : ℕ) → is_linked left a b ≡ true → is_linked links a b ≡ true
  pub count : placed row + length left ≡ suc (length links)
  pub deep : (b : ℕ) (p : Place) → get_or row b None ≡ Some p → p.depth + length left ≤ length links

-- a link that is left has one end below a place, and one without a place
pub record Hangs (row : List (Option Place)) (left : List Link) (k : ℕ) (l : Link) (node u : ℕ) (q : Place) : Type 0 where
  pub free : get_or row node None ≡ None
  pub above : get_or row u None ≡ Some q
  pub node_in : node < length row
  pub left_in : k < length left
  pub joined : joins node u (get_or left k l) ≡ true

-- ---- one node more

other_node : (row : List (Option Place)) (node u : ℕ) (q : Place) → get_or row node None ≡ None → get_or row u None ≡ Some q → u ≡ node → ⊥
other_node row node u q free h e = let f : get_or row u None ≡ get_or row node None = ap (λ z. get_or row z None) e in cc

still : (row : List (Option Place)) (node u : ℕ) (q : Place) (x : Option Place) → get_or row node None ≡ None → get_or row u None ≡ Some q → get_or (set row node x) u None ≡ Some q
still row node u q x free h = get_or-set_other row node u x None (other_node row node u q free h) ∙ h

known_kept : (row : List (Option Place)) (links : List Link) (root node : ℕ) (x : Option Place) → get_or row node None ≡ None → (b d : ℕ) (o : Option ℕ)
    → IsKnown row links root b d o → IsKnown (set row node x) links root b d o
known_kept row links root node x free b d None h = h
known_kept row links root node x free b d (Some u) h = (h.0, still row node u h.0 x free h.1, h.2, h.3)

up_kept : (row : List (Option Place)) (node : ℕ) (x : Option Place) (a u : ℕ) → get_or row node None ≡ None → IsUp row a u → IsUp (set row node x) a u
up_kept row node x a u free h = (h.0, still row node a h.0 x free h.1, h.2)

some_same : (p q : Place) → Some p ≡ Some q → p ≡ q
some_same p q e = cc

pub grown_more : (n : ℕ) (links : List Link) (root : ℕ) (row : List (Option Place)) (left : List Link) (k : ℕ) (l : Link) (node u : ℕ) (q : Place)
    → Grown n links root row left → Hangs row left k l node u q → Grown n links root (set row node (Some (below u q))) (remove left k)
grown_more n links root row left k l node u q g h = record {
  size = length-set row node (Some (below u q)) ∙ g.size;
  at_root = still row node root top (Some (below u q)) h.free g.at_root;
  known = λ b p e. ⊎_elim (λ same. new b p same e) (λ other. old b p other e) (cases_eq b node);
  settled = λ a b e. ⊎_elim
      (λ f. ⊎_elim (λ i. inl i) (λ i. inr (hung a b i)) (linked_kept left k l a b f))
      (λ f. inr (⊎_elim (λ i. inl (up_kept row node _ a b h.free i)) (λ i. inr (up_kept row node _ b a h.free i)) f))
      (g.settled a b e);
  inside = λ a b e. g.inside a b (linked_back left k a b e);
  count = omega (arith, placed_more row node (below u q) h.node_in h.free, length-remove left k h.left_in, g.count);
  deep = λ b p e. ⊎_elim (λ same. deep_new b p same e) (λ other. deep_old b p other e) (cases_eq b node);
}
  where
    linked : is_linked links node u ≡ true
    linked = g.inside node u (list_any_at (joins node u) left k l h.left_in h.joined)

    here : get_or (set row node (Some (below u q))) node None ≡ Some (below u q)
    here = get_or-set_same row node (Some (below u q)) None h.node_in

    is_new : (b : ℕ) (p : Place) → b ≡ node → get_or (set row node (Some (below u q))) b None ≡ Some p → below u q ≡ p
    is_new b p same e = some_same (below u q) p (sym here ∙ ap (λ z. get_or (set row node (Some (below u q))) z None) (sym same) ∙ e)

    was_old : (b : ℕ) (p : Place) → (b ≡ node → ⊥) → get_or (set row node (Some (below u q))) b None ≡ Some p → get_or row b None ≡ Some p
    was_old b p other e = sym (get_or-set_other row node b (Some (below u q)) None other) ∙ e

    new_known : IsKnown (set row node (Some (below u q))) links root node (q.depth + 1) (Some u)
    new_known = (q, still row node u q (Some (below u q)) h.free h.above, omega arith, linked)

    new : (b : ℕ) (p : Place) → b ≡ node → get_or (set row node (Some (below u q))) b None ≡ Some p → IsKnown (set row node (Some (below u q))) links root b p.depth p.up
    new b p same e =
        let at : (z : Place) → below u q ≡ z → IsKnown (set row node (Some (below u q))) links root node z.depth z.up = λ z f. subst (λ (y : Place). IsKnown (set row node (Some (below u q))) links root node y.depth y.up) f new_known in
        subst (λ z. IsKnown (set row node (Some (below u q))) links root z p.depth p.up) (sym same) (at p (is_new b p same e))

    old : (b : ℕ) (p : Place) → (b ≡ node → ⊥) → get_or (set row node (Some (below u q))) b None ≡ Some p → IsKnown (set row node (Some (below u q))) links root b p.depth p.up
    old b p other e = known_kept row links root node (Some (below u q)) h.free b p.depth p.up (g.known b p (was_old b p other e))

    hung : (a b : ℕ) → joins a b (get_or left k l) ≡ true → IsUp (set row node (Some (below u q))) a b ⊎ IsUp (set row node (Some (below u q))) b a
    hung a b i =
        ⊎_elim
        (λ e. inl (subst (λ z. IsUp (set row node (Some (below u q))) z b) (sym e.0) (below u q, here, ap Some (sym e.1))))
        (λ e. inr (subst (λ z. IsUp (set row node (Some (below u q))) z a) (sym e.1) (below u q, here, ap Some (sym e.0))))
        (joins_same a b node u (get_or left k l) i h.joined)

    deep_new : (b : ℕ) (p : Place) → b ≡ node → get_or (set row node (Some (below u q))) b None ≡ Some p → p.depth + length (remove left k) ≤ length links
    deep_new b p same e =
        let d : q.depth + 1 ≡ p.depth = ap (λ (z : Place). z.depth) (is_new b p same e) in
        omega (arith, d, g.deep u q h.above, length-remove left k h.left_in)

    deep_old : (b : ℕ) (p : Place) → (b ≡ node → ⊥) → get_or (set row node (Some (below u q))) b None ≡ Some p → p.depth + length (remove left k) ≤ length links
    deep_old b p other e = omega (arith, g.deep b p (was_old b p other e), length-remove left k h.left_in)

-- ---- the step of the search

pub placed_is : (o : Option Place) → is_some o ≡ true → (q : Place) × (o ≡ Some q)
placed_is None h = absurd (false≢true h)
placed_is (Some q) h = (q, refl)

not_placed : (o : Option Place) → is_some o ≡ false → o ≡ None
not_placed None h = refl
not_placed (Some q) h = absurd (true≢false h)

pub crossed : (n : ℕ) (links : List Link) (root : ℕ) (row : List (Option Place)) (left : List Link) (k : ℕ) (l : Link)
    → IsWithin n links → Grown n links root row left → k < length left → l ≡ get_or left k l → crosses row l ≡ true → Grown n links root (attached row l) (remove left k)
crossed n links root row left k l within g lt is h =
    ⊎_elim
    (λ e. let p = and_parts (is_placed row l.one) (not (is_placed row l.other)) e in from_one p.0 (not-true (is_placed row l.other) p.1))
    (λ e. let p = and_parts (is_placed row l.other) (not (is_placed row l.one)) e in from_other p.0 (not-true (is_placed row l.one) p.1))
    (or_cases (is_placed row l.one && not (is_placed row l.other)) (is_placed row l.other && not (is_placed row l.one)) h)
  where
    joined : joins l.one l.other (get_or left k l) ≡ true
    joined = subst (λ z. joins l.one l.other z ≡ true) is (joins_one l.one l.other l refl refl)

    joined_back : joins l.other l.one (get_or left k l) ≡ true
    joined_back = subst (λ z. joins l.other l.one z ≡ true) is (joins_other l.other l.one l refl refl)

    ends_in : (l.one < n) × (l.other < n)
    ends_in = within l.one l.other (g.inside l.one l.other (list_any_at (joins l.one l.other) left k l lt joined))

    from_one : is_placed row l.one ≡ true → is_placed row l.other ≡ false → Grown n links root (attached row l) (remove left k)
    from_one a b =
        let w = placed_is (get_or row l.one None) a in
        let step = grown_more n links root row left k l l.other l.one w.0 g (record { free = not_placed (get_or row l.other None) b; above = w.1; node_in = omega (arith, ends_in.1, g.size); left_in = lt; joined = joined_back }) in
        subst (λ z. Grown n links root z (remove left k)) (sym (cond-true (is_placed row l.one) _ _ a ∙ ap (λ o. set row l.other (option_map (below l.one) o)) w.1)) step

    from_other : is_placed row l.other ≡ true → is_placed row l.one ≡ false → Grown n links root (attached row l) (remove left k)
    from_other a b =
        let w = placed_is (get_or row l.other None) a in
        let step = grown_more n links root row left k l l.one l.other w.0 g (record { free = not_placed (get_or row l.one None) b; above = w.1; node_in = omega (arith, ends_in.0, g.size); left_in = lt; joined = joined }) in
        subst (λ z. Grown n links root z (remove left k)) (sym (cond-false (is_placed row l.one) _ _ b ∙ ap (λ o. set row l.one (option_map (below l.other) o)) w.1)) step

-- ---- the start

-- no place
abbrev pub nowhere : Option Place
nowhere = None

nothing_at : (n b : ℕ) → get_or (replicate n nowhere) b None ≡ None
nothing_at n b = ⊎_elim (λ h. get_or-replicate n b None None h) (λ h. get_or_past (replicate n None) b None (omega (arith, length-replicate n nowhere))) (cases_lt b n)

pub grown_start : (n : ℕ) (links : List Link) (root : ℕ) → root < n → length links + 1 ≡ n → Grown n links root (set (replicate n None) root (Some top)) links
grown_start n links root in_n size = record {
  size = length-set (replicate n None) root (Some top) ∙ length-replicate n None;
  at_root = here;
  known = λ b p e. ⊎_elim (λ same. first b p same e) (λ other. absurd (none b p other e)) (cases_eq b root);
  settled = λ a b e. inl e;
  inside = λ a b e. e;
  count = omega (arith, placed_more (replicate n None) root top (omega (arith, length-replicate n nowhere)) (nothing_at n root), placed_none n);
  deep = λ b p e. ⊎_elim (λ same. let d : 0 ≡ p.depth = ap (λ (z : Place). z.depth) (is_top b p same e) in omega arith) (λ other. absurd (none b p other e)) (cases_eq b root);
}
  where
    here : get_or (set (replicate n None) root (Some top)) root None ≡ Some top
    here = get_or-set_same (replicate n None) root (Some top) None (omega (arith, length-replicate n nowhere))

    is_top : (b : ℕ) (p : Place) → b ≡ root → get_or (set (replicate n None) root (Some top)) b None ≡ Some p → top ≡ p
    is_top b p same e = some_same top p (sym here ∙ ap (λ z. get_or (set (replicate n None) root (Some top)) z None) (sym same) ∙ e)

    none : (b : ℕ) (p : Place) → (b ≡ root → ⊥) → get_or (set (replicate n None) root (Some top)) b None ≡ Some p → ⊥
    none b p other e = let f : get_or (set (replicate n None) root (Some top)) b None ≡ None = get_or-set_other (replicate n None) root b (Some top) None other ∙ nothing_at n b in cc

    first : (b : ℕ) (p : Place) → b ≡ root → get_or (set (replicate n None) root (Some top)) b None ≡ Some p → IsKnown (set (replicate n None) root (Some top)) links root b p.depth p.up
    first b p same e = subst (λ (z : Place). IsKnown (set (replicate n None) root (Some top)) links root b z.depth z.up) (is_top b p same e) (same, refl)
