-- Which items a list has: with one more at its place, and up to a tick.
use Rattle.std.proofs.Common.{◌≡◌, ◌↔◌, ℕ, ◌≤◌, true, false, cond, nat_le, List, [], ◌∷◌, ◌⊎◌, inl, inr, sym, subst, refl, arith}
use Rattle.std.specs.List.{Contains}
use Rattle.std.proofs.lemmas.Bool.Decides.{nat_tests}
use Rattle.std.proofs.lemmas.List.Elements.{Contains-append_right, Contains-append_cases, Contains-push_cases}
use Rattle.gr_order.specs.declared.item.Item.{Item}
use Rattle.gr_order.specs.Order.{is_before, placed, up_to}
use Rattle.gr_order.proofs.Placing.{Each}

-- a list has its head
pub has_head : (i : Item) (rest : List Item) → Contains (i ∷ rest) i
has_head i rest = (0, omega arith, refl)

-- and what its tail has
pub has_tail : (i x : Item) (rest : List Item) → Contains rest x → Contains (i ∷ rest) x
has_tail i x rest h = Contains-append_right (i ∷ []) rest x h

-- the empty list has nothing
pub has_none : (x : Item) → Contains [] x → ⊥
has_none x h = omega (arith, h.1)

-- what a list has is its head, or its tail has it
pub has_cases : (i x : Item) (rest : List Item) → Contains (i ∷ rest) x → (i ≡ x) ⊎ Contains rest x
has_cases i x rest h = elim (Contains-append_cases (i ∷ []) rest x h) [
  | inl a ↦ elim (Contains-push_cases [] i x a) [ inl b ↦ absurd (has_none x b) | inr b ↦ inl b ]
  | inr a ↦ inr a
]

-- the items with one more at its place have that one and the others
pub has_placed : (item x : Item) (items : List Item) → Contains (item ∷ items) x ↔ Contains (placed item items) x
has_placed item x [] = (λ h. h, λ h. h)
has_placed item x (i ∷ rest) = elim (is_before item i) as (λ t. Contains (item ∷ i ∷ rest) x ↔ Contains (cond t (item ∷ i ∷ rest) (i ∷ placed item rest)) x) [
  | true ↦ (λ h. h, λ h. h)
  | false ↦ (there (has_placed item x rest).0, back (has_placed item x rest).1)
]
  where
    there : (Contains (item ∷ rest) x → Contains (placed item rest) x) → Contains (item ∷ i ∷ rest) x → Contains (i ∷ placed item rest) x
    there more h = elim (has_cases item x (i ∷ rest) h) [
      | inl a ↦ has_tail i x (placed item rest) (more (subst (λ (y : Item). Contains (item ∷ rest) y) a (has_head item rest)))
      | inr a ↦ elim (has_cases i x rest a) [
        | inl b ↦ subst (λ (y : Item). Contains (i ∷ placed item rest) y) b (has_head i (placed item rest))
        | inr b ↦ has_tail i x (placed item rest) (more (has_tail item x rest b))
      ]
    ]

    back : (Contains (placed item rest) x → Contains (item ∷ rest) x) → Contains (i ∷ placed item rest) x → Contains (item ∷ i ∷ rest) x
    back more h = elim (has_cases i x (placed item rest) h) [
      | inl a ↦ has_tail item x (i ∷ rest) (subst (λ (y : Item). Contains (i ∷ rest) y) a (has_head i rest))
      | inr a ↦ elim (has_cases item x rest (more a)) [
        | inl b ↦ subst (λ (y : Item). Contains (item ∷ i ∷ rest) y) b (has_head item (i ∷ rest))
        | inr b ↦ has_tail item x (i ∷ rest) (has_tail i x rest b)
      ]
    ]

-- a list's items up to a tick are those of its items that are up to it
pub has_up_to : (tick : ℕ) (x : Item) (items : List Item) → Contains (up_to tick items) x ↔ (Contains items x × (x.tick ≤ tick))
has_up_to tick x [] = (λ h. absurd (has_none x h), λ h. h.0)
has_up_to tick x (i ∷ rest) = elim (nat_le i.tick tick) as (λ t. nat_le i.tick tick ≡ t → Contains (cond t (i ∷ up_to tick rest) (up_to tick rest)) x ↔ (Contains (i ∷ rest) x × (x.tick ≤ tick))) [
  | true ↦ λ e. (there e (has_up_to tick x rest).0, back (has_up_to tick x rest).1)
  | false ↦ λ e. (λ h. let b = (has_up_to tick x rest).0 h in (has_tail i x rest b.0, b.1), only e (has_up_to tick x rest).1)
] refl
  where
    there : nat_le i.tick tick ≡ true → (Contains (up_to tick rest) x → Contains rest x × (x.tick ≤ tick)) → Contains (i ∷ up_to tick rest) x → Contains (i ∷ rest) x × (x.tick ≤ tick)
    there e more h = elim (has_cases i x (up_to tick rest) h) [
      | inl a ↦ (subst (λ (y : Item). Contains (i ∷ rest) y) a (has_head i rest), subst (λ (y : Item). y.tick ≤ tick) a (grind (arith, nat_tests)))
      | inr a ↦ let b = more a in (has_tail i x rest b.0, b.1)
    ]

    back : (Contains rest x × (x.tick ≤ tick) → Contains (up_to tick rest) x) → Contains (i ∷ rest) x × (x.tick ≤ tick) → Contains (i ∷ up_to tick rest) x
    back more h = elim (has_cases i x rest h.0) [
      | inl a ↦ subst (λ (y : Item). Contains (i ∷ up_to tick rest) y) a (has_head i (up_to tick rest))
      | inr a ↦ has_tail i x (up_to tick rest) (more (a, h.1))
    ]

    only : nat_le i.tick tick ≡ false → (Contains rest x × (x.tick ≤ tick) → Contains (up_to tick rest) x) → Contains (i ∷ rest) x × (x.tick ≤ tick) → Contains (up_to tick rest) x
    only e more h = elim (has_cases i x rest h.0) [
      | inl a ↦
          let low : i.tick ≤ tick = subst (λ (y : Item). y.tick ≤ tick) (sym a) h.1 in
          absurd (grind (arith, nat_tests))
      | inr a ↦ more (a, h.1)
    ]

-- what holds of each holds of what the list has
pub each_from_has : (P : Item → Type 0) (x : Item) (items : List Item) → Each P items → Contains items x → P x
each_from_has P x [] all h = absurd (has_none x h)
each_from_has P x (i ∷ rest) all h = elim (has_cases i x rest h) [
  | inl a ↦ subst P a all.0
  | inr a ↦ each_from_has P x rest all.1 a
]

-- each of the items up to a tick is up to it
pub each_up_to : (tick : ℕ) (items : List Item) → Each (λ i. i.tick ≤ tick) (up_to tick items)
each_up_to tick [] = tt
each_up_to tick (i ∷ rest) = elim (nat_le i.tick tick) as (λ t. nat_le i.tick tick ≡ t → Each (λ j. j.tick ≤ tick) (cond t (i ∷ up_to tick rest) (up_to tick rest))) [
  | true ↦ λ e. (grind (arith, nat_tests), each_up_to tick rest)
  | false ↦ λ e. each_up_to tick rest
] refl
