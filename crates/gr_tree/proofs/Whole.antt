-- A row in which every node is placed is what walks over the links say, and where no link is left to hang, no walk leads out of the row
use Rattle.std.proofs.Common.{◌≡◌, ◌⊎◌, ℕ, zero, suc, ◌+◌, ◌-◌, ◌<◌, ◌≤◌, Bool, true, false, ◌||◌, ◌&&◌, not, nat_eq, nat_lt, List, [], ◌∷◌, length, get_or, map, Option, Some, None, refl, sym, ap, ◌∙◌, subst, inl, inr, ⊎_elim, arith, eq-eqb}
use Rattle.std.specs.Option.{is_some}
use Rattle.std.specs.List.{list_all}
use Rattle.std.proofs.lemmas.List.{nil_from_length, same_lists, length-map}
use Rattle.std.proofs.lemmas.Bool.{false≢true, true≢false, or_cases, or_left, or_right, and_parts, and_from, and_left, and_right, cases_eq, eqb-true, ne_eqb, lt-ltb, false_from_ne_true}
use Rattle.gr_tree.specs.declared.link.Link.{Link}
use Rattle.gr_tree.specs.declared.link.Place.{Place}
use Rattle.gr_tree.specs.Walks.{numbers, is_linked, is_reached, is_tree, distance, up_of, place_of, places_of, IsRooted}
use Rattle.gr_tree.specs.Search.{is_placed, crosses}
use Rattle.gr_tree.proofs.Numbers.{any_in, any_from, all_at, all_from, least_is, first_is, first_none, length-numbers_from, at_number}
use Rattle.gr_tree.proofs.Links.{Ends, ends, linked_swap}
use Rattle.gr_tree.proofs.Growing.{placed_all, top, IsKnown, IsUp, Grown}

-- ---- where a row ends

-- a row whose placed nodes are linked to placed nodes only
abbrev pub IsClosed : List Link → List (Option Place) → Type 0
IsClosed links row = (a b : ℕ) → is_linked links a b ≡ true → is_placed row a ≡ true → is_placed row b ≡ true

not_crossing : (row : List (Option Place)) (l : Link) → crosses row l ≡ false → (is_placed row l.one ≡ true → is_placed row l.other ≡ true) × (is_placed row l.other ≡ true → is_placed row l.one ≡ true)
not_crossing row l h = (by_tests (is_placed row l.one) (is_placed row l.other) h)
  where
    by_tests : (x y : Bool) → ((x && not y) || (y && not x)) ≡ false → (x ≡ true → y ≡ true) × (y ≡ true → x ≡ true)
    by_tests true true h = (λ e. refl, λ e. refl)
    by_tests false false h = (λ e. e, λ e. e)
    by_tests true false h = absurd (true≢false h)
    by_tests false true h = absurd (true≢false h)

none_crosses : (row : List (Option Place)) (ls : List Link) → ((k : ℕ) (d : Link) → k < length ls → crosses row (get_or ls k d) ≡ false) → (a b : ℕ) → is_linked ls a b ≡ true → is_placed row a ≡ true → is_placed row b ≡ true
none_crosses row [] f a b h p = absurd (false≢true h)
none_crosses row (l ∷ ls) f a b h p =
    ⊎_elim (λ e. by_ends (ends a b l e))
    (λ e. none_crosses row ls (λ k d lt. f (suc k) d (omega arith)) a b e p)
    (or_cases _ (is_linked ls a b) h)
  where
    by_ends : Ends a b l → is_placed row b ≡ true
    by_ends w =
        let both = not_crossing row l (f 0 l (omega arith)) in
        ⊎_elim
        (λ e. subst (λ z. is_placed row z ≡ true) e.1 (both.0 (subst (λ z. is_placed row z ≡ true) (sym e.0) p)))
        (λ e. subst (λ z. is_placed row z ≡ true) e.0 (both.1 (subst (λ z. is_placed row z ≡ true) (sym e.1) p))) w

-- the node below which one is placed is placed itself
above_placed : (row : List (Option Place)) (links : List Link) (root b d u : ℕ) (o : Option ℕ) → o ≡ Some u → IsKnown row links root b d o → is_placed row u ≡ true
above_placed row links root b d u None e h = cc
above_placed row links root b d u (Some v) e h = let same : v ≡ u = cc in subst (λ z. is_placed row z ≡ true) same (ap is_some h.1)

pub closed : (n : ℕ) (links : List Link) (root : ℕ) (row : List (Option Place)) (left : List Link) → Grown n links root row left
    → ((k : ℕ) (d : Link) → k < length left → crosses row (get_or left k d) ≡ false) → IsClosed links row
closed n links root row left g none a b h p =
    ⊎_elim (λ e. none_crosses row left none a b e p)
    (λ e. ⊎_elim (λ w. above_placed row links root a w.0.depth b w.0.up w.2 (g.known a w.0 w.1)) (λ w. ap is_some w.1) e)
    (g.settled a b h)

-- what is reached from a placed node is placed
pub reach_forward : (n : ℕ) (links : List Link) (row : List (Option Place)) → IsClosed links row → (k a b : ℕ) → is_placed row a ≡ true → is_reached n links k a b ≡ true → is_placed row b ≡ true
unfolding is_reached
reach_forward n links row shut zero a b p h = subst (λ z. is_placed row z ≡ true) (eqb-true a b h) p
reach_forward n links row shut (suc k) a b p h =
    ⊎_elim (λ e. reach_forward n links row shut k a b p e)
    (λ e.
    let w = any_in (λ c. is_reached n links k a c && is_linked links c b) (numbers n) e in
    let parts = and_parts (is_reached n links k a w.0) (is_linked links w.0 b) w.1 in
    shut w.0 b parts.1 (reach_forward n links row shut k a w.0 p parts.0))
    (or_cases (is_reached n links k a b) _ h)

-- and what reaches a placed node is placed
pub reach_back : (n : ℕ) (links : List Link) (row : List (Option Place)) → IsClosed links row → (k a b : ℕ) → is_placed row b ≡ true → is_reached n links k a b ≡ true → is_placed row a ≡ true
unfolding is_reached
reach_back n links row shut zero a b p h = subst (λ z. is_placed row z ≡ true) (sym (eqb-true a b h)) p
reach_back n links row shut (suc k) a b p h =
    ⊎_elim (λ e. reach_back n links row shut k a b p e)
    (λ e.
    let w = any_in (λ c. is_reached n links k a c && is_linked links c b) (numbers n) e in
    let parts = and_parts (is_reached n links k a w.0) (is_linked links w.0 b) w.1 in
    reach_back n links row shut k a w.0 (shut b w.0 (linked_swap links w.0 b parts.1) p) parts.0)
    (or_cases (is_reached n links k a b) _ h)

reached_all : (n : ℕ) (links : List Link) (b : ℕ) → is_tree n links ≡ true → b < n → is_reached n links (n - 1) 0 b ≡ true
unfolding is_tree
reached_all n links b h lt =
    let two = and_parts (nat_lt 0 n) (nat_eq (length links + 1) n && list_all (λ c. is_reached n links (n - 1) 0 c) (numbers n)) h in
    let three = and_parts (nat_eq (length links + 1) n) (list_all (λ c. is_reached n links (n - 1) 0 c) (numbers n)) two.1 in
    all_at (λ c. is_reached n links (n - 1) 0 c) 0 n b (omega arith) (omega arith) three.1

-- links are no tree where some node has no place at the end
pub no_tree : (n : ℕ) (links : List Link) (root : ℕ) (row : List (Option Place)) (left : List Link) → Grown n links root row left → root < n
    → ((k : ℕ) (d : Link) → k < length left → crosses row (get_or left k d) ≡ false) → (b : ℕ) → b < n → is_placed row b ≡ false → is_tree n links ≡ false
no_tree n links root row left g root_in none b lt out = false_from_ne_true (is_tree n links) (λ h.
    let shut = closed n links root row left g none in
    let first = reach_back n links row shut (n - 1) 0 root (ap is_some g.at_root) (reached_all n links root h root_in) in
    true≢false (sym (reach_forward n links row shut (n - 1) 0 b first (reached_all n links b h lt)) ∙ out))

-- nor where there is not one link fewer than nodes
pub other_count : (n : ℕ) (links : List Link) → (length links + 1 ≡ n → ⊥) → is_tree n links ≡ false
unfolding is_tree
other_count n links h = and_right (nat_lt 0 n) _ (and_left (nat_eq (length links + 1) n) _ (ne_eqb (length links + 1) n h))

-- ---- a row with every node

pub record Whole (n : ℕ) (links : List Link) (root : ℕ) (row : List (Option Place)) : Type 0 where
  pub size : length row ≡ n
  pub root_in : root < n
  pub at_root : get_or row root None ≡ Some top
  pub known : (b : ℕ) (p : Place) → get_or row b None ≡ Some p → IsKnown row links root b p.depth p.up
  pub related : (a b : ℕ) → is_linked links a b ≡ true → IsUp row a b ⊎ IsUp row b a
  pub all : (b : ℕ) → b < n → (p : Place) × (get_or row b None ≡ Some p)
  pub deep : (b : ℕ) (p : Place) → get_or row b None ≡ Some p → p.depth < n

pub whole_from : (n : ℕ) (links : List Link) (root : ℕ) (row : List (Option Place)) (left : List Link) → Grown n links root row left → root < n → length links + 1 ≡ n
    → ((b : ℕ) → b < n → (p : Place) × (get_or row b None ≡ Some p)) → Whole n links root row
whole_from n links root row left g root_in size f = record {
  size = g.size;
  root_in = root_in;
  at_root = g.at_root;
  known = g.known;
  related = λ a b h. ⊎_elim (λ e. absurd (false≢true (subst (λ ls. is_linked ls a b ≡ true) none_left e))) (λ e. e) (g.settled a b h);
  all = f;
  deep = λ b p e. omega (arith, g.deep b p e, size);
}
  where
    none_left : left ≡ []
    none_left = nil_from_length left (omega (arith, g.count, g.size, size, placed_all row (λ b lt. ap is_some (f b (omega (arith, g.size))).1)))

some_same : (p q : Place) → Some p ≡ Some q → p ≡ q
some_same p q e = cc

within_row : (row : List (Option Place)) (u : ℕ) (q : Place) → get_or row u None ≡ Some q → u < length row
within_row [] u q e = cc
within_row (x ∷ row) zero q e = omega arith
within_row (x ∷ row) (suc u) q e = let h = within_row row u q e in omega arith

pub reached_self : (n : ℕ) (links : List Link) (a b : ℕ) → a ≡ b → is_reached n links zero a b ≡ true
unfolding is_reached
reached_self n links a b e = eq-eqb a b e

pub reached_next : (n : ℕ) (links : List Link) (k a c b : ℕ) → c < n → is_reached n links k a c ≡ true → is_linked links c b ≡ true → is_reached n links (suc k) a b ≡ true
unfolding is_reached
reached_next n links k a c b lt h l =
    or_right (is_reached n links k a b) _
    (any_from (λ x. is_reached n links k a x && is_linked links x b) 0 n c (omega arith) (omega arith) (and_from (is_reached n links k a c) (is_linked links c b) h l))

pub reached_later : (n : ℕ) (links : List Link) (k a b : ℕ) → is_reached n links k a b ≡ true → is_reached n links (suc k) a b ≡ true
unfolding is_reached
reached_later n links k a b h = or_left (is_reached n links k a b) _ h

pub reached_le : (n : ℕ) (links : List Link) (m k a b : ℕ) → k ≤ m → is_reached n links k a b ≡ true → is_reached n links m a b ≡ true
reached_le n links zero k a b le h = let e : k ≡ zero = omega arith in subst (λ z. is_reached n links z a b ≡ true) e h
reached_le n links (suc m) k a b le h =
    elim (cases_eq k (suc m)) [
      | inl e ↦ subst (λ z. is_reached n links z a b ≡ true) e h
      | inr e ↦ reached_later n links m a b (reached_le n links m k a b (omega arith) h)
    ]

-- a node is reached by as many links as it is deep
depth_reached : (n : ℕ) (links : List Link) (root : ℕ) (row : List (Option Place)) → Whole n links root row → (k b d : ℕ) (o : Option ℕ) → d ≡ k → IsKnown row links root b d o → is_reached n links k root b ≡ true
depth_reached n links root row w zero b d None e h = reached_self n links root b (sym h.0)
depth_reached n links root row w (suc k) b d None e h = absurd (omega (arith, h.1))
depth_reached n links root row w zero b d (Some u) e h = absurd (omega (arith, h.2))
depth_reached n links root row w (suc k) b d (Some u) e h =
    reached_next n links k root u b (omega (arith, within_row row u h.0 h.1, w.size))
    (depth_reached n links root row w k u h.0.depth h.0.up (omega (arith, h.2)) (w.known u h.0 h.1)) (linked_swap links b u h.3)

pub reached_at : (n : ℕ) (links : List Link) (root : ℕ) (row : List (Option Place)) → Whole n links root row → (b : ℕ) (p : Place) → get_or row b None ≡ Some p → is_reached n links p.depth root b ≡ true
reached_at n links root row w b p e = depth_reached n links root row w p.depth b p.depth p.up refl (w.known b p e)

-- the place that a node hangs below
above : (row : List (Option Place)) (links : List Link) (root b d u : ℕ) (o : Option ℕ) → o ≡ Some u → IsKnown row links root b d o → (q : Place) × (get_or row u None ≡ Some q) × (d ≡ suc q.depth) × (is_linked links b u ≡ true)
above row links root b d u None e h = cc
above row links root b d u (Some v) e h = let same : v ≡ u = cc in subst (λ z. (q : Place) × (get_or row z None ≡ Some q) × (d ≡ suc q.depth) × (is_linked links b z ≡ true)) same h

-- linked nodes are one link apart
pub link_apart : (n : ℕ) (links : List Link) (root : ℕ) (row : List (Option Place)) → Whole n links root row → (a b : ℕ) (p q : Place) → get_or row a None ≡ Some p → get_or row b None ≡ Some q → is_linked links a b ≡ true
    → ((p.up ≡ Some b) × (p.depth ≡ suc q.depth)) ⊎ ((q.up ≡ Some a) × (q.depth ≡ suc p.depth))
link_apart n links root row w a b p q e f l =
    ⊎_elim (λ u. inl (up a b p q e f u)) (λ u. inr (up b a q p f e u)) (w.related a b l)
  where
    up : (a b : ℕ) (p q : Place) → get_or row a None ≡ Some p → get_or row b None ≡ Some q → IsUp row a b → (p.up ≡ Some b) × (p.depth ≡ suc q.depth)
    up a b p q e f u =
        let same : u.0 ≡ p = some_same u.0 p (sym u.1 ∙ e) in
        let ups : p.up ≡ Some b = ap (λ (z : Place). z.up) (sym same) ∙ u.2 in
        let x = above row links root a p.depth b p.up ups (w.known a p e) in
        let also : x.0 ≡ q = some_same x.0 q (sym x.1 ∙ f) in
        (ups, x.2 ∙ ap (λ (z : Place). suc z.depth) also)

-- no node is reached by fewer links than it is deep
depth_least : (n : ℕ) (links : List Link) (root : ℕ) (row : List (Option Place)) → Whole n links root row → (k b : ℕ) (p : Place) → get_or row b None ≡ Some p → is_reached n links k root b ≡ true → p.depth ≤ k
unfolding is_reached
depth_least n links root row w zero b p e h =
    let same : top ≡ p = some_same top p (sym w.at_root ∙ ap (λ z. get_or row z None) (eqb-true root b h) ∙ e) in
    let d : 0 ≡ p.depth = ap (λ (z : Place). z.depth) same in omega arith
depth_least n links root row w (suc k) b p e h =
    ⊎_elim (λ i. let ih = depth_least n links root row w k b p e i in omega (arith, ih))
    (λ i.
    let c = any_in (λ x. is_reached n links k root x && is_linked links x b) (numbers n) i in
    let parts = and_parts (is_reached n links k root c.0) (is_linked links c.0 b) c.1 in
    ⊎_elim
    (λ u. let ih = depth_least n links root row w k c.0 u.0 u.1 parts.0 in near c.0 u.0 u.1 parts.1 ih)
    (λ u.
    let x = above row links root b u.0.depth c.0 u.0.up u.2 (w.known b u.0 u.1) in
    let ih = depth_least n links root row w k c.0 x.0 x.1 parts.0 in near c.0 x.0 x.1 parts.1 ih)
    (w.related c.0 b parts.1))
    (or_cases (is_reached n links k root b) _ h)
  where
    near : (c : ℕ) (q : Place) → get_or row c None ≡ Some q → is_linked links c b ≡ true → q.depth ≤ k → p.depth ≤ suc k
    near c q f l le = ⊎_elim (λ a. omega (arith, a.1)) (λ a. omega (arith, a.1)) (link_apart n links root row w c b q p f e l)

pub depth_is : (n : ℕ) (links : List Link) (root : ℕ) (row : List (Option Place)) → Whole n links root row → (b : ℕ) (p : Place) → get_or row b None ≡ Some p → distance n links root b ≡ p.depth
unfolding distance
depth_is n links root row w b p e =
    least_is (λ k. is_reached n links k root b) 0 n p.depth (omega arith) (omega (arith, w.deep b p e)) (reached_at n links root row w b p e)
    (λ j low less. false_from_ne_true (is_reached n links j root b) (λ h. absurd (omega (arith, depth_least n links root row w j b p e h))))

-- the test by which the next node towards the root is found
abbrev nearer : ℕ → List Link → ℕ → ℕ → ℕ → Bool
nearer n links root b c = is_linked links b c && nat_eq (suc (distance n links root c)) (distance n links root b)

only_up : (n : ℕ) (links : List Link) (root : ℕ) (row : List (Option Place)) → Whole n links root row → (b : ℕ) (p : Place) → get_or row b None ≡ Some p → (c : ℕ) → nearer n links root b c ≡ true → p.up ≡ Some c
only_up n links root row w b p e c h =
    let parts = and_parts (is_linked links b c) (nat_eq (suc (distance n links root c)) (distance n links root b)) h in
    let near = eqb-true (suc (distance n links root c)) (distance n links root b) parts.1 in
    ⊎_elim (λ u. ap (λ (z : Place). z.up) (some_same p u.0 (sym e ∙ u.1)) ∙ u.2)
    (λ u. ⊎_elim (λ x. x.0)
    (λ x. absurd (omega (arith, x.1, near, depth_is n links root row w b p e, depth_is n links root row w c u.0 u.1)))
    (link_apart n links root row w b c p u.0 e u.1 parts.0))
    (w.related b c parts.0)

is_nearer : (n : ℕ) (links : List Link) (root : ℕ) (row : List (Option Place)) → Whole n links root row → (b : ℕ) (p : Place) → get_or row b None ≡ Some p → (u : ℕ) (q : Place) → get_or row u None ≡ Some q → p.depth ≡ suc q.depth
    → is_linked links b u ≡ true → nearer n links root b u ≡ true
is_nearer n links root row w b p e u q f d l =
    and_from (is_linked links b u) (nat_eq (suc (distance n links root u)) (distance n links root b)) l
    (eq-eqb (suc (distance n links root u)) (distance n links root b) (omega (arith, d, depth_is n links root row w b p e, depth_is n links root row w u q f)))

some_none : (c : ℕ) → Some c ≡ None → ⊥
some_none c f = cc

some_number : (a b : ℕ) → Some a ≡ Some b → a ≡ b
some_number a b e = cc

up_by : (n : ℕ) (links : List Link) (root : ℕ) (row : List (Option Place)) → Whole n links root row → (b : ℕ) (p : Place) → get_or row b None ≡ Some p → (o : Option ℕ) → p.up ≡ o → IsKnown row links root b p.depth o → up_of n links root b ≡ o
unfolding up_of
up_by n links root row w b p e None h k =
    first_none (nearer n links root b) 0 n (λ c. false_from_ne_true (nearer n links root b c) (λ t. let f : Some c ≡ None = sym (only_up n links root row w b p e c t) ∙ h in absurd (some_none c f)))
up_by n links root row w b p e (Some u) h k =
    first_is (nearer n links root b) 0 n u (omega arith) (omega (arith, within_row row u k.0 k.1, w.size))
    (is_nearer n links root row w b p e u k.0 k.1 k.2 k.3)
    (λ c t. some_number c u (sym (only_up n links root row w b p e c t) ∙ h))

pub up_is : (n : ℕ) (links : List Link) (root : ℕ) (row : List (Option Place)) → Whole n links root row → (b : ℕ) (p : Place) → get_or row b None ≡ Some p → up_of n links root b ≡ p.up
up_is n links root row w b p e = up_by n links root row w b p e p.up refl (w.known b p e)

same_place : (x y : Option ℕ) (d k : ℕ) → x ≡ y → d ≡ k → ◌≡◌ {A = Place} (record { up = x; depth = d }) (record { up = y; depth = k })
same_place x y d k h i = ap (λ z. let q : Place = record { up = z; depth = d } in q) h ∙ ap (λ z. let q : Place = record { up = y; depth = z } in q) i

pub place_is : (n : ℕ) (links : List Link) (root : ℕ) (row : List (Option Place)) → Whole n links root row → (b : ℕ) (p : Place) → get_or row b None ≡ Some p → place_of n links root b ≡ p
place_is n links root row w b p e = same_place (up_of n links root b) p.up (distance n links root b) p.depth (up_is n links root row w b p e) (depth_is n links root row w b p e)

-- ---- what a tree is, seen from the root

pub rooted : (n : ℕ) (links : List Link) (root : ℕ) (row : List (Option Place)) → Whole n links root row → IsRooted n links root
rooted n links root row w = record {
  root_in = w.root_in;
  no_up = up_is n links root row w root top w.at_root;
  top = depth_is n links root row w root top w.at_root;
  up_in = λ b u lt e. let p = w.all b lt in up_step b u p.0 p.1 e;
  up_some = λ b lt other. let p = w.all b lt in has_up b other p.0 p.1 p.0.up refl (w.known b p.0 p.1);
  link_up = λ a b l. ⊎_elim (λ x. inl (up_is n links root row w a x.0 x.1 ∙ x.2)) (λ x. inr (up_is n links root row w b x.0 x.1 ∙ x.2)) (w.related a b l);
  depth_in = λ b lt. let p = w.all b lt in omega (arith, w.deep b p.0 p.1, depth_is n links root row w b p.0 p.1);
}
  where
    up_step : (b u : ℕ) (p : Place) → get_or row b None ≡ Some p → up_of n links root b ≡ Some u → (u < n) × (is_linked links b u ≡ true) × (distance n links root b ≡ suc (distance n links root u))
    up_step b u p e f =
        let x = above row links root b p.depth u p.up (sym (up_is n links root row w b p e) ∙ f) (w.known b p e) in
        (omega (arith, within_row row u x.0 x.1, w.size), x.3, depth_is n links root row w b p e ∙ x.2 ∙ ap suc (sym (depth_is n links root row w u x.0 x.1)))

    has_up : (b : ℕ) → (b ≡ root → ⊥) → (p : Place) → get_or row b None ≡ Some p → (o : Option ℕ) → p.up ≡ o → IsKnown row links root b p.depth o → (u : ℕ) × (up_of n links root b ≡ Some u)
    has_up b other p e None h k = absurd (other k.0)
    has_up b other p e (Some u) h k = (u, up_is n links root row w b p e ∙ h)

-- and links are a tree, where the root is the first node
pub a_tree : (n : ℕ) (links : List Link) (root : ℕ) (row : List (Option Place)) → Whole n links root row → length links + 1 ≡ n → root ≡ 0 → is_tree n links ≡ true
unfolding is_tree
a_tree n links root row w size first =
    and_from (nat_lt 0 n) _ (lt-ltb 0 n (omega arith))
    (and_from (nat_eq (length links + 1) n) _ (eq-eqb (length links + 1) n size)
    (all_from (λ b. is_reached n links (n - 1) 0 b) 0 n (λ b low high.
    let p = w.all b (omega arith) in
    subst (λ z. is_reached n links (n - 1) z b ≡ true) first
    (reached_le n links (n - 1) p.0.depth root b (omega (arith, w.deep b p.0 p.1)) (reached_at n links root row w b p.0 p.1)))))

-- the row holds the places
pub places_are : (n : ℕ) (links : List Link) (root : ℕ) (row : List (Option Place)) (ps : List Place) → Whole n links root row → map Some ps ≡ row → ps ≡ places_of n links root
places_are n links root row ps w is =
    same_lists ps (places_of n links root) (size ∙ sym (length-map (numbers n) (place_of n links root) ∙ length-numbers_from 0 n))
    (λ k d lt.
    let lt_n : k < n = omega (arith, size) in
    sym (place_is n links root row w k (get_or ps k d) (ap (λ r. get_or r k None) (sym is) ∙ mapped ps k d lt)) ∙ ap (place_of n links root) (plus k) ∙ sym (at_number (place_of n links root) 0 n k d lt_n))
  where
    size : length ps ≡ n
    size = sym (length-map ps Some) ∙ ap length is ∙ w.size

    plus : (k : ℕ) → k ≡ 0 + k
    plus k = omega arith

    mapped : (xs : List Place) (k : ℕ) (d : Place) → k < length xs → get_or (map Some xs) k None ≡ Some (get_or xs k d)
    mapped [] k d h = absurd (omega arith)
    mapped (x ∷ xs) zero d h = refl
    mapped (x ∷ xs) (suc k) d h = mapped xs k d (omega arith)
