-- Two rising lists of the same items are one list, so of two merged lists the shorter is the front of the longer.
use Rattle.std.proofs.Common.{◌≡◌, ◌↔◌, ℕ, ◌≤◌, true, List, [], ◌∷◌, ◌++◌, inl, inr, ap, sym, ◌∙◌, subst, refl, arith}
use Rattle.std.specs.List.{Contains}
use Rattle.std.proofs.lemmas.Bool.Decides.{nat_tests}
use Rattle.gr_order.specs.declared.item.Item.{Item}
use Rattle.gr_order.specs.Order.{is_before, IsRising, up_to, past}
use Rattle.gr_order.specs.Law.{IsMerged, Begins}
use Rattle.gr_order.proofs.Placing.{before_trans, rising_up_to, cut_at}
use Rattle.gr_order.proofs.Members.{has_head, has_tail, has_none, has_cases, has_up_to, each_from_has}

-- no item is before itself
not_itself : (a : Item) → is_before a a ≡ true → ⊥
not_itself a h = grind (arith, nat_tests)

-- the heads of two rising lists of the same items are the same
same_head : (x y : Item) (xs ys : List Item) → IsRising (x ∷ xs) → IsRising (y ∷ ys) → Contains (y ∷ ys) x → Contains (x ∷ xs) y → x ≡ y
same_head x y xs ys r s h k = elim (has_cases y x ys h) [
  | inl a ↦ sym a
  | inr a ↦ elim (has_cases x y xs k) [
    | inl b ↦ b
    | inr b ↦ absurd (not_itself x (before_trans x y x (each_from_has (λ j. is_before x j ≡ true) y xs r.0 b) (each_from_has (λ j. is_before y j ≡ true) x ys s.0 a)))
  ]
]

-- what stands behind a head is not the head
behind_head : (x i : Item) (xs ys : List Item) → IsRising (x ∷ xs) → (Contains (x ∷ xs) i → Contains (x ∷ ys) i) → Contains xs i → Contains ys i
behind_head x i xs ys r f h = elim (has_cases x i ys (f (has_tail x i xs h))) [
  | inl a ↦ absurd (not_itself x (each_from_has (λ j. is_before x j ≡ true) x xs r.0 (subst (λ (z : Item). Contains xs z) (sym a) h)))
  | inr a ↦ a
]

-- so the lists are the same
same_list : (xs ys : List Item) → IsRising xs → IsRising ys → ((i : Item) → Contains xs i ↔ Contains ys i) → xs ≡ ys
same_list [] [] r s f = refl
same_list [] (y ∷ ys) r s f = absurd (has_none y ((f y).1 (has_head y ys)))
same_list (x ∷ xs) [] r s f = absurd (has_none x ((f x).0 (has_head x xs)))
same_list (x ∷ xs) (y ∷ ys) r s f =
    let head : x ≡ y = same_head x y xs ys r s ((f x).0 (has_head x xs)) ((f y).1 (has_head y ys)) in
    let s' : IsRising (x ∷ ys) = subst (λ (z : Item). IsRising (z ∷ ys)) (sym head) s in
    let f' : (i : Item) → Contains (x ∷ xs) i ↔ Contains (x ∷ ys) i = subst (λ (z : Item). (i : Item) → Contains (x ∷ xs) i ↔ Contains (z ∷ ys) i) (sym head) f in
    ap (λ (z : Item). z ∷ xs) head ∙ ap (λ (zs : List Item). y ∷ zs) (same_list xs ys r.1 s.1 (λ i. (behind_head x i xs ys r (f' i).0, behind_head x i ys xs s' (f' i).1)))

-- two merged lists of the same items up to the same tick are one
pub one_list : (items : List Item) (tick : ℕ) (list other : List Item) → IsMerged items tick list → IsMerged items tick other → list ≡ other
one_list items tick list other m n =
    same_list list other m.rises n.rises (λ i. (λ h. (n.each i).1 ((m.each i).0 h), λ h. (m.each i).1 ((n.each i).0 h)))

-- the longer list up to the shorter one's tick is the shorter one
pub begins : (items others : List Item) (tick later : ℕ) (list longer : List Item) → tick ≤ later → ((item : Item) → item.tick ≤ tick → Contains items item ↔ Contains others item) → IsMerged items tick list → IsMerged others later longer → Begins list longer
begins items others tick later list longer le agree m n = record {
  rest = past tick longer;
  is = sym (cut_at tick longer n.rises) ∙ ap (λ (zs : List Item). zs ++ past tick longer) (sym same);
}
  where
    there : (i : Item) → Contains list i → Contains (up_to tick longer) i
    there i h =
        let a = (m.each i).0 h in
        let upto : i.tick ≤ later = omega (arith, a.1, le) in
        (has_up_to tick i longer).1 ((n.each i).1 ((agree i a.1).0 a.0, upto), a.1)

    back : (i : Item) → Contains (up_to tick longer) i → Contains list i
    back i h =
        let a = (has_up_to tick i longer).0 h in
        (m.each i).1 ((agree i a.1).1 ((n.each i).0 a.0).0, a.1)

    same : list ≡ up_to tick longer
    same = same_list list (up_to tick longer) m.rises (rising_up_to tick longer n.rises) (λ i. (there i, back i))
