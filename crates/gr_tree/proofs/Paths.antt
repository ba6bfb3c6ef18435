-- From each node of a tree the steps up are the one walk to the root without a repeat: a walk that steps down once never comes up again
use Rattle.std.proofs.Common.{◌≡◌, ℕ, zero, suc, ◌<◌, true, false, ◌||◌, nat_eq, List, [], ◌∷◌, Some, None, refl, sym, ap, ◌∙◌, subst, inl, inr, ⊎_elim, arith, eq-eqb}
use Rattle.std.specs.List.{list_any}
use Rattle.std.proofs.lemmas.Bool.{false≢true, true≢false, or_cases, or_parts, cases_eq, eqb-true, false_from_ne_true}
use Rattle.gr_tree.specs.declared.link.Link.{Link}
use Rattle.gr_tree.specs.Walks.{is_linked, IsWithin, IsWalk, IsDistinct, distance, up_of, onward, steps_up, path_of, IsRooted, HasOnlyPaths}

some_same : (a b : ℕ) → Some a ≡ Some b → a ≡ b
some_same a b e = cc

some_none : (a : ℕ) → Some a ≡ None → ⊥
some_none a e = cc

-- a node that is no link away from the root is the root
is_root : (n : ℕ) (links : List Link) (root : ℕ) → IsRooted n links root → (b : ℕ) → b < n → distance n links root b ≡ 0 → b ≡ root
is_root n links root r b lt d =
    elim (cases_eq b root) [
      | inl e ↦ e
      | inr other ↦ let u = r.up_some b lt other in let h = r.up_in b u.0 lt u.1 in absurd (omega (arith, h.2, d))
    ]

-- and one that is further away has a next node
has_up : (n : ℕ) (links : List Link) (root : ℕ) → IsRooted n links root → (b k : ℕ) → b < n → distance n links root b ≡ suc k → (u : ℕ) × (up_of n links root b ≡ Some u) × (u < n) × (is_linked links b u ≡ true) × (distance n links root u ≡ k)
has_up n links root r b k lt d =
    let other : b ≡ root → ⊥ = λ e. let z : distance n links root b ≡ distance n links root root = ap (distance n links root) e in absurd (omega (arith, z, r.top, d)) in
    let u = r.up_some b lt other in
    let h = r.up_in b u.0 lt u.1 in
    let near : distance n links root u.0 ≡ k = omega (arith, h.2, d) in
    (u.0, u.1, h.0, h.1, near)

pub walks : (n : ℕ) (links : List Link) (root : ℕ) → IsRooted n links root → (k b : ℕ) → b < n → distance n links root b ≡ k → IsWalk links b (steps_up (up_of n links root) k b) root
walks n links root r zero b lt d = is_root n links root r b lt d
walks n links root r (suc k) b lt d =
    let u = has_up n links root r b k lt d in
    subst (λ o. IsWalk links b (onward o (steps_up (up_of n links root) k)) root) (sym u.1) (u.3, walks n links root r k u.0 u.2 u.4)

-- each node of the steps is nearer to the root than the first
nearer : (n : ℕ) (links : List Link) (root : ℕ) → IsRooted n links root → (k b x : ℕ) → b < n → distance n links root b ≡ k → list_any (λ y. nat_eq y x) (steps_up (up_of n links root) k b) ≡ true → distance n links root x < k
nearer n links root r zero b x lt d h = absurd (false≢true h)
nearer n links root r (suc k) b x lt d h =
    let u = has_up n links root r b k lt d in
    let i = subst (λ o. list_any (λ y. nat_eq y x) (onward o (steps_up (up_of n links root) k)) ≡ true) u.1 h in
    ⊎_elim
    (λ e. let z : distance n links root u.0 ≡ distance n links root x = ap (distance n links root) (eqb-true u.0 x e) in omega (arith, z, u.4))
    (λ e. let ih = nearer n links root r k u.0 x u.2 u.4 e in omega (arith, ih))
    (or_cases (nat_eq u.0 x) (list_any (λ y. nat_eq y x) (steps_up (up_of n links root) k u.0)) i)

pub no_repeat : (n : ℕ) (links : List Link) (root : ℕ) → IsRooted n links root → (k b : ℕ) → b < n → distance n links root b ≡ k → IsDistinct (b ∷ steps_up (up_of n links root) k b)
no_repeat n links root r zero b lt d = (refl, tt)
no_repeat n links root r (suc k) b lt d =
    let u = has_up n links root r b k lt d in
    let here : list_any (λ y. nat_eq y b) (steps_up (up_of n links root) (suc k) b) ≡ false =
    false_from_ne_true _ (λ e. let h = nearer n links root r (suc k) b b lt d e in absurd (omega (arith, h, d))) in
    (here, subst (λ o. IsDistinct (onward o (steps_up (up_of n links root) k))) (sym u.1) (no_repeat n links root r k u.0 u.2 u.4))

-- a walk that has stepped down does not end at the root
down : (n : ℕ) (links : List Link) (root : ℕ) → IsRooted n links root → (cs : List ℕ) (b c : ℕ) → up_of n links root c ≡ Some b → IsWalk links c cs root → IsDistinct (b ∷ c ∷ cs) → ⊥
down n links root r [] b c h walk distinct = some_none b (sym h ∙ ap (up_of n links root) walk ∙ r.no_up)
down n links root r (d ∷ ds) b c h walk distinct =
    ⊎_elim
    (λ e.
    let same : d ≡ b = some_same d b (sym e ∙ h) in
    let apart = or_parts (nat_eq c b) (nat_eq d b || list_any (λ y. nat_eq y b) ds) distinct.0 in
    let also = or_parts (nat_eq d b) (list_any (λ y. nat_eq y b) ds) apart.1 in
    true≢false (sym (eq-eqb d b same) ∙ also.0))
    (λ e. down n links root r ds c d e walk.1 distinct.1)
    (r.link_up c d walk.0)

pub only_walk : (n : ℕ) (links : List Link) (root : ℕ) → IsWithin n links → IsRooted n links root → (vs : List ℕ) (k b : ℕ) → b < n → distance n links root b ≡ k → IsWalk links b vs root → IsDistinct (b ∷ vs) → vs ≡ steps_up (up_of n links root) k b
only_walk n links root within r [] zero b lt d walk distinct = refl
only_walk n links root within r [] (suc k) b lt d walk distinct = let z : distance n links root b ≡ distance n links root root = ap (distance n links root) walk in absurd (omega (arith, z, r.top, d))
only_walk n links root within r (c ∷ cs) zero b lt d walk distinct =
    ⊎_elim
    (λ e. let h = r.up_in b c lt e in absurd (omega (arith, h.2, d)))
    (λ e. absurd (down n links root r cs b c e walk.1 distinct))
    (r.link_up b c walk.0)
only_walk n links root within r (c ∷ cs) (suc k) b lt d walk distinct =
    ⊎_elim
    (λ e.
    let h = r.up_in b c lt e in
    let near : distance n links root c ≡ k = omega (arith, h.2, d) in
    subst (λ o. c ∷ cs ≡ onward o (steps_up (up_of n links root) k)) (sym e) (ap (λ z. c ∷ z) (only_walk n links root within r cs k c h.0 near walk.1 distinct.1)))
    (λ e. absurd (down n links root r cs b c e walk.1 distinct))
    (r.link_up b c walk.0)

pub only_paths : (n : ℕ) (links : List Link) (root : ℕ) → IsWithin n links → IsRooted n links root → HasOnlyPaths n links root
unfolding path_of
only_paths n links root within r = λ b lt. record {
  walk = walks n links root r (distance n links root b) b lt refl;
  distinct = no_repeat n links root r (distance n links root b) b lt refl;
  only = λ others walk distinct. only_walk n links root within r others (distance n links root b) b lt refl walk distinct;
}
