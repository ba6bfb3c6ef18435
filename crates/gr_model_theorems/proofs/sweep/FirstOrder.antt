-- In the first phase of a sweep the host is woken last, and the others by falling depth: each broker but the host is one deeper than its next one up
use Rattle.std.proofs.Common.{◌≡◌, ◌≢◌, inl, inr, ⊎_elim, ℕ, suc, zero, ◌+◌, ◌≤◌, ◌<◌, Bool, true, false, List, [], ◌∷◌, ◌++◌, refl, sym, ap, ◌∙◌, subst, arith, append_assoc}
use Rattle.std.specs.Prelude.{nat_eq, filter, flat_map}
use Rattle.std.specs.List.{list_any}
use Rattle.std.proofs.lemmas.Bool.{cases_Bool, cases_eq, true≢false, eqb-true, eq-eqb, or_left, or_right, or_cases}
use Rattle.gr_model.specs.Net.{Net, is_host, numbers, numbers_from}
use Rattle.gr_model.specs.World.{at_depth, inwards, numbers_down}
use Rattle.gr_model.specs.Tree.{IsNet}
use Rattle.gr_model_calls.proofs.runs.Worlds.{Each, numbers_below}
use Rattle.gr_model_theorems.proofs.records.Records.{has_inwards}
use Rattle.gr_model_theorems.proofs.sweep.FirstPending.{IsIn}

-- no other broker is so little deep as the host
host_least_upto : (net : Net) (p k b : ℕ) → IsNet net → p < net.publishers → b < net.brokers → is_host net p b ≡ false → net.depth p b < k → net.depth p (net.host p) < net.depth p b
host_least_upto net p zero b n j i e l = absurd (omega (arith, l))
host_least_upto net p (suc k) b n j i e l =
    let u = n.up_below p b j i e in
    let up = n.up_in p b u.0 j i u.1 in
    let d : net.depth p b ≡ suc (net.depth p u.0) = n.depth_up p b u.0 j i u.1 in
    elim (cases_Bool (is_host net p u.0)) [
      | inl h ↦ omega (arith, d, ap (net.depth p) (eqb-true (net.host p) u.0 h))
      | inr h ↦ omega (arith, d, host_least_upto net p k u.0 n j up.0 h (omega (arith, l, d)))
    ]

pub host_least : (net : Net) (p b : ℕ) → IsNet net → p < net.publishers → b < net.brokers → is_host net p b ≡ false → net.depth p (net.host p) < net.depth p b
host_least net p b n j i e = host_least_upto net p (suc (net.depth p b)) b n j i e (omega arith)

-- Filters of numbers

filter_passes : (test : ℕ → Bool) (xs : List ℕ) → Each (λ x. test x ≡ true) (filter test xs)
filter_passes test [] = tt
filter_passes test (x ∷ xs) =
    elim (cases_Bool (test x)) [
      | inl e ↦ rw e (e, filter_passes test xs)
      | inr e ↦ rw e (filter_passes test xs)
    ]

filter_keeps : (P : ℕ → Type 0) (test : ℕ → Bool) (xs : List ℕ) → Each P xs → Each P (filter test xs)
filter_keeps P test [] a = tt
filter_keeps P test (x ∷ xs) a =
    elim (cases_Bool (test x)) [
      | inl e ↦ rw e (a.0, filter_keeps P test xs a.1)
      | inr e ↦ rw e (filter_keeps P test xs a.1)
    ]

filter_none : (test : ℕ → Bool) (a k : ℕ) → ((x : ℕ) → a ≤ x → x < a + k → test x ≡ true → ⊥) → filter test (numbers_from a k) ≡ []
filter_none test a zero h = refl
filter_none test a (suc k) h =
    elim (cases_Bool (test a)) [
      | inl e ↦ absurd (h a (omega arith) (omega arith) e)
      | inr e ↦ rw e (filter_none test (suc a) k (λ x l m. h x (omega (arith, l)) (omega (arith, m))))
    ]

filter_one : (test : ℕ → Bool) (a k b : ℕ) → a ≤ b → b < a + k → test b ≡ true → ((x : ℕ) → a ≤ x → x < a + k → test x ≡ true → x ≡ b) → filter test (numbers_from a k) ≡ b ∷ []
filter_one test a zero b l m t h = absurd (omega (arith, l, m))
filter_one test a (suc k) b l m t h =
    elim (cases_Bool (test a)) [
      | inl e ↦
          let g : a ≡ b = h a (omega arith) (omega arith) e in
          rw e (subst (λ z. a ∷ filter test (numbers_from (suc a) k) ≡ z ∷ []) g (ap (λ z. a ∷ z) (filter_none test (suc a) k (λ x x1 x2 x3. omega (arith, x1, g, h x (omega (arith, x1)) (omega (arith, x2)) x3)))))
      | inr e ↦
          let far : a ≢ b = λ g. true≢false (sym t ∙ (ap test (sym g) ∙ e)) in
          rw e (filter_one test (suc a) k b (omega (arith, l, far)) (omega (arith, m)) t (λ x x1 x2 x3. h x (omega (arith, x1)) (omega (arith, x2)) x3))
    ]

-- Depths that fall

-- from depth d on, no broker of the list is deeper than the one before it
abbrev pub FallsFrom : Net → ℕ → ℕ → List ℕ → Type 0
FallsFrom net p d [] = Unit {0}
FallsFrom net p d (b ∷ bs) = (net.depth p b ≤ d) × FallsFrom net p (net.depth p b) bs

falls_from : (net : Net) (p d e : ℕ) (bs : List ℕ) → d ≤ e → FallsFrom net p d bs → FallsFrom net p e bs
falls_from net p d e [] l h = tt
falls_from net p d e (b ∷ bs) l h = (omega (arith, l, h.0), h.1)

falls_level : (net : Net) (p d e : ℕ) (xs ys : List ℕ) → Each (λ b. net.depth p b ≡ e) xs → e ≤ d → FallsFrom net p e ys → FallsFrom net p d (xs ++ ys)
falls_level net p d e [] ys a l h = falls_from net p e d ys l h
falls_level net p d e (x ∷ xs) ys a l h = (omega (arith, a.0, l), falls_level net p (net.depth p x) e xs ys a.1 (omega (arith, a.0)) h)

-- a broker that is not the host
abbrev pub IsBelow : Net → ℕ → ℕ → Type 0
IsBelow net p b = (b < net.brokers) × (is_host net p b ≡ false)

each_append : (P : ℕ → Type 0) (xs ys : List ℕ) → Each P xs → Each P ys → Each P (xs ++ ys)
each_append P [] ys a b = b
each_append P (x ∷ xs) ys a b = (a.0, each_append P xs ys a.1 b)

each_level : (net : Net) (p e : ℕ) → Each (λ b. net.depth p b ≡ e) (at_depth net p e)
each_level net p e = go (at_depth net p e) (filter_passes (λ b. nat_eq (net.depth p b) e) (numbers net.brokers))
  where
    go : (xs : List ℕ) → Each (λ b. nat_eq (net.depth p b) e ≡ true) xs → Each (λ b. net.depth p b ≡ e) xs
    go [] a = tt
    go (x ∷ xs) a = (eqb-true (net.depth p x) e a.0, go xs a.1)

-- the brokers of a depth that is not the host's
level_below : (net : Net) (p e : ℕ) → net.depth p (net.host p) < e → Each (IsBelow net p) (at_depth net p e)
level_below net p e l = go (at_depth net p e) (each_level net p e) (filter_keeps (λ b. b < net.brokers) (λ b. nat_eq (net.depth p b) e) (numbers net.brokers) (numbers_below 0 net.brokers net.brokers (omega arith)))
  where
    not_host : (b : ℕ) → net.depth p b ≡ e → is_host net p b ≡ false
    not_host b h =
        elim (cases_Bool (is_host net p b)) [
          | inl g ↦ absurd (omega (arith, l, h, ap (net.depth p) (eqb-true (net.host p) b g)))
          | inr g ↦ g
        ]

    go : (xs : List ℕ) → Each (λ b. net.depth p b ≡ e) xs → Each (λ b. b < net.brokers) xs → Each (IsBelow net p) xs
    go [] a c = tt
    go (x ∷ xs) a c = ((c.0, not_host x a.0), go xs a.1 c.1)

abbrev pub down_from : Net → ℕ → ℕ → List ℕ
down_from net p k = flat_map (at_depth net p) (numbers_down k)

-- the host alone is at its depth, and none is less deep
host_level : (net : Net) (p : ℕ) → IsNet net → p < net.publishers → at_depth net p (net.depth p (net.host p)) ≡ net.host p ∷ []
host_level net p n j =
    filter_one (λ b. nat_eq (net.depth p b) (net.depth p (net.host p))) 0 net.brokers (net.host p) (omega arith) (omega (arith, n.host_in p j)) (eq-eqb (net.depth p (net.host p)) (net.depth p (net.host p)) refl)
    (λ x l m e. elim (cases_Bool (is_host net p x)) [
      | inl h ↦ sym (eqb-true (net.host p) x h)
      | inr h ↦ absurd (omega (arith, host_least net p x n j (omega (arith, m)) h, eqb-true (net.depth p x) (net.depth p (net.host p)) e))
    ])

none_above : (net : Net) (p k : ℕ) → IsNet net → p < net.publishers → k ≤ net.depth p (net.host p) → down_from net p k ≡ []
none_above net p zero n j l = refl
none_above net p (suc k) n j l =
    let a : at_depth net p k ≡ [] = filter_none (λ b. nat_eq (net.depth p b) k) 0 net.brokers (λ x y m e. elim (cases_Bool (is_host net p x)) [
      | inl h ↦ omega (arith, l, eqb-true (net.depth p x) k e, ap (net.depth p) (eqb-true (net.host p) x h))
      | inr h ↦ omega (arith, l, host_least net p x n j (omega (arith, m)) h, eqb-true (net.depth p x) k e)
    ]) in
    ap (λ z. z ++ down_from net p k) a ∙ none_above net p k n j (omega (arith, l))

-- by falling depth, and then the host
pub record HostLast (net : Net) (p k : ℕ) : Type 0 where
  pub before : List ℕ
  pub is : down_from net p k ≡ before ++ (net.host p ∷ [])
  pub falls : FallsFrom net p k before
  pub below : Each (IsBelow net p) before

host_last_from : (net : Net) (p k : ℕ) → IsNet net → p < net.publishers → net.depth p (net.host p) < k → HostLast net p k
host_last_from net p zero n j l = absurd (omega (arith, l))
host_last_from net p (suc k) n j l =
    elim (cases_eq k (net.depth p (net.host p))) [
      | inl e ↦ record {
        before = [];
        is = ap (λ z. z ++ down_from net p k) (subst (λ z. at_depth net p z ≡ net.host p ∷ []) (sym e) (host_level net p n j)) ∙ ap (λ z. net.host p ∷ z) (none_above net p k n j (omega (arith, e)));
        falls = tt;
        below = tt;
      }
      | inr e ↦
          let r = host_last_from net p k n j (omega (arith, l, e)) in
          record {
            before = at_depth net p k ++ r.before;
            is = ap (λ z. at_depth net p k ++ z) r.is ∙ sym (append_assoc (at_depth net p k) r.before (net.host p ∷ []));
            falls = falls_level net p (suc k) k (at_depth net p k) r.before (each_level net p k) (omega arith) r.falls;
            below = each_append (IsBelow net p) (at_depth net p k) r.before (level_below net p k (omega (arith, l, e))) r.below;
          }
    ]

-- inwards the brokers come by falling depth, and the host comes last
pub host_last : (net : Net) (p : ℕ) → IsNet net → p < net.publishers → HostLast net p net.brokers
host_last net p n j = host_last_from net p net.brokers n j (n.depth_in p (net.host p) j (n.host_in p j))

in_front : (b h : ℕ) (xs : List ℕ) → h ≢ b → IsIn b (xs ++ (h ∷ [])) → IsIn b xs
in_front b h [] n e = ⊎_elim (λ x. absurd (n (eqb-true h b x))) (λ x. x) (or_cases (nat_eq h b) false e)
in_front b h (x ∷ xs) n e =
    ⊎_elim
    (λ z. or_left (nat_eq x b) (list_any (λ y. nat_eq y b) xs) z)
    (λ z. or_right (nat_eq x b) (list_any (λ y. nat_eq y b) xs) (in_front b h xs n z))
    (or_cases (nat_eq x b) (list_any (λ y. nat_eq y b) (xs ++ (h ∷ []))) e)

-- each broker but the host is woken before it
pub woken_before : (net : Net) (p b : ℕ) (xs : List ℕ) → IsNet net → p < net.publishers → inwards net p ≡ xs ++ (net.host p ∷ []) → b < net.brokers → is_host net p b ≡ false → IsIn b xs
woken_before net p b xs n j e i h = in_front b (net.host p) xs (λ g. true≢false (sym (eq-eqb (net.host p) b g) ∙ h)) (subst (IsIn b) e (has_inwards net p b n j i))
