-- The order in which a sweep comes to the brokers: inwards no broker comes before one that is deeper, outwards none after one, and each comes once
use Rattle.std.proofs.Common.{◌≡◌, inl, inr, ⊎_elim, ℕ, suc, zero, ◌+◌, ◌≤◌, ◌<◌, Bool, true, false, ◌||◌, List, [], ◌∷◌, ◌++◌, refl, sym, ap, ap₂, ◌∙◌, subst, arith}
use Rattle.std.specs.Prelude.{nat_eq, filter, flat_map}
use Rattle.std.specs.List.{list_any}
use Rattle.std.proofs.lemmas.Bool.{cases_Bool, cases_eq, false≢true, or_left, or_right, or_cases, eqb-true, eq-eqb, ne_eqb}
use Rattle.gr_model.specs.Net.{Net, numbers, numbers_from}
use Rattle.gr_model.specs.World.{at_depth, outwards, inwards, numbers_down}
use Rattle.gr_model.specs.Tree.{IsDistinct}
use Rattle.gr_model_calls.proofs.runs.Worlds.{Each}

-- the broker stands in the list
abbrev pub stands : List ℕ → ℕ → Bool
stands xs b = list_any (λ x. nat_eq x b) xs

pub stands-append : (xs ys : List ℕ) (b : ℕ) → stands (xs ++ ys) b ≡ (stands xs b || stands ys b)
stands-append [] ys b = refl
stands-append (x ∷ xs) ys b = ap (λ z. nat_eq x b || z) (stands-append xs ys b) ∙ or_assoc (nat_eq x b) (stands xs b) (stands ys b)
  where
    or_assoc : (x y z : Bool) → (x || (y || z)) ≡ ((x || y) || z)
    or_assoc true y z = refl
    or_assoc false y z = refl

-- a number of a range stands in the list of the range
pub stands_numbers : (a n b : ℕ) → a ≤ b → b < a + n → stands (numbers_from a n) b ≡ true
stands_numbers a zero b l m = absurd (omega (arith, l, m))
stands_numbers a (suc n) b l m =
    elim (cases_eq a b) [
      | inl e ↦ or_left (nat_eq a b) (stands (numbers_from (suc a) n) b) (eq-eqb a b e)
      | inr e ↦ or_right (nat_eq a b) (stands (numbers_from (suc a) n) b) (stands_numbers (suc a) n b (omega (arith, l, e)) (omega (arith, m)))
    ]

stands_kept : (test : ℕ → Bool) (xs : List ℕ) (b : ℕ) → stands xs b ≡ true → test b ≡ true → stands (filter test xs) b ≡ true
stands_kept test [] b e t = e
stands_kept test (x ∷ xs) b e t =
    elim (cases_Bool (test x)) [
      | inl y ↦ rw y (⊎_elim (λ z. or_left (nat_eq x b) (stands (filter test xs) b) z) (λ z. or_right (nat_eq x b) (stands (filter test xs) b) (stands_kept test xs b z t)) (or_cases (nat_eq x b) (stands xs b) e))
      | inr y ↦ rw y (⊎_elim (λ z. absurd (false≢true (sym y ∙ (ap test (eqb-true x b z) ∙ t)))) (λ z. stands_kept test xs b z t) (or_cases (nat_eq x b) (stands xs b) e))
    ]

stands_depth : (net : Net) (p b : ℕ) → b < net.brokers → stands (at_depth net p (net.depth p b)) b ≡ true
stands_depth net p b i = stands_kept (λ c. nat_eq (net.depth p c) (net.depth p b)) (numbers net.brokers) b (stands_numbers 0 net.brokers b (omega arith) (omega (arith, i))) (eq-eqb (net.depth p b) (net.depth p b) refl)

stands_down : (net : Net) (p b n : ℕ) → b < net.brokers → net.depth p b < n → stands (flat_map (at_depth net p) (numbers_down n)) b ≡ true
stands_down net p b zero i l = absurd (omega (arith, l))
stands_down net p b (suc n) i l =
    stands-append (at_depth net p n) (flat_map (at_depth net p) (numbers_down n)) b ∙ elim (cases_eq (net.depth p b) n) [
      | inl e ↦ or_left (stands (at_depth net p n) b) (stands (flat_map (at_depth net p) (numbers_down n)) b) (subst (λ z. stands (at_depth net p z) b ≡ true) e (stands_depth net p b i))
      | inr e ↦ or_right (stands (at_depth net p n) b) (stands (flat_map (at_depth net p) (numbers_down n)) b) (stands_down net p b n i (omega (arith, l, e)))
    ]

stands_up : (net : Net) (p b a n : ℕ) → b < net.brokers → a ≤ net.depth p b → net.depth p b < a + n → stands (flat_map (at_depth net p) (numbers_from a n)) b ≡ true
stands_up net p b a zero i l m = absurd (omega (arith, l, m))
stands_up net p b a (suc n) i l m =
    stands-append (at_depth net p a) (flat_map (at_depth net p) (numbers_from (suc a) n)) b ∙ elim (cases_eq (net.depth p b) a) [
      | inl e ↦ or_left (stands (at_depth net p a) b) (stands (flat_map (at_depth net p) (numbers_from (suc a) n)) b) (subst (λ z. stands (at_depth net p z) b ≡ true) e (stands_depth net p b i))
      | inr e ↦ or_right (stands (at_depth net p a) b) (stands (flat_map (at_depth net p) (numbers_from (suc a) n)) b) (stands_up net p b (suc a) n i (omega (arith, l, e)) (omega (arith, m)))
    ]

-- each broker is come to
pub stands_inwards : (net : Net) (p b : ℕ) → b < net.brokers → net.depth p b < net.brokers → stands (inwards net p) b ≡ true
stands_inwards net p b i l = stands_down net p b net.brokers i l

-- each broker has its place in the outward order
pub stands_outwards : (net : Net) (p b : ℕ) → b < net.brokers → net.depth p b < net.brokers → stands (outwards net p) b ≡ true
stands_outwards net p b i l = stands_up net p b 0 net.brokers i (omega arith) (omega (arith, l))

-- Depths

-- each that a test keeps passes it
pub each_tested : {X : Type 0} (test : X → Bool) (xs : List X) → Each (λ x. test x ≡ true) (filter test xs)
each_tested test [] = tt
each_tested test (x ∷ xs) =
    elim (cases_Bool (test x)) [
      | inl e ↦ rw e (e, each_tested test xs)
      | inr e ↦ rw e (each_tested test xs)
    ]

-- a weaker property holds of each too
pub Each-map : {X : Type 0} (P R : X → Type 0) (xs : List X) → ((x : X) → P x → R x) → Each P xs → Each R xs
Each-map P R [] f a = tt
Each-map P R (x ∷ xs) f a = (f x a.0, Each-map P R xs f a.1)

-- what holds of each of two lists holds of each of the joined list
pub Each-join : {X : Type 0} (P : X → Type 0) (xs ys : List X) → Each P xs → Each P ys → Each P (xs ++ ys)
Each-join P [] ys a b = b
Each-join P (x ∷ xs) ys a b = (a.0, Each-join P xs ys a.1 b)

depths_are : (net : Net) (p d : ℕ) → Each (λ x. net.depth p x ≡ d) (at_depth net p d)
depths_are net p d = Each-map (λ x. nat_eq (net.depth p x) d ≡ true) (λ x. net.depth p x ≡ d) (at_depth net p d) (λ x e. eqb-true (net.depth p x) d e) (each_tested (λ x. nat_eq (net.depth p x) d) (numbers net.brokers))

-- the depths fall along the list
abbrev pub Falls : Net → ℕ → List ℕ → Type 0
Falls net p [] = Unit {0}
Falls net p (x ∷ xs) = Each (λ y. net.depth p y ≤ net.depth p x) xs × Falls net p xs

falls_on : (net : Net) (p d : ℕ) (xs ys : List ℕ) → Each (λ x. net.depth p x ≡ d) xs → Each (λ y. net.depth p y ≤ d) ys → Falls net p ys → Falls net p (xs ++ ys)
falls_on net p d [] ys a l f = f
falls_on net p d (x ∷ xs) ys a l f = (
  Each-join (λ y. net.depth p y ≤ net.depth p x) xs ys (Each-map (λ y. net.depth p y ≡ d) (λ y. net.depth p y ≤ net.depth p x) xs (λ y e. omega (arith, e, a.0)) a.1) (Each-map (λ y. net.depth p y ≤ d) (λ y. net.depth p y ≤ net.depth p x) ys (λ y e. omega (arith, e, a.0)) l),
  falls_on net p d xs ys a.1 l f,
)

down_below : (net : Net) (p n : ℕ) → Each (λ y. net.depth p y < n) (flat_map (at_depth net p) (numbers_down n))
down_below net p zero = tt
down_below net p (suc n) = Each-join (λ y. net.depth p y < suc n) (at_depth net p n) (flat_map (at_depth net p) (numbers_down n)) (Each-map (λ y. net.depth p y ≡ n) (λ y. net.depth p y < suc n) (at_depth net p n) (λ y e. omega (arith, e)) (depths_are net p n)) (Each-map (λ y. net.depth p y < n) (λ y. net.depth p y < suc n) (flat_map (at_depth net p) (numbers_down n)) (λ y e. omega (arith, e)) (down_below net p n))

down_falls : (net : Net) (p n : ℕ) → Falls net p (flat_map (at_depth net p) (numbers_down n))
down_falls net p zero = tt
down_falls net p (suc n) = falls_on net p n (at_depth net p n) (flat_map (at_depth net p) (numbers_down n)) (depths_are net p n) (Each-map (λ y. net.depth p y < n) (λ y. net.depth p y ≤ n) (flat_map (at_depth net p) (numbers_down n)) (λ y e. omega (arith, e)) (down_below net p n)) (down_falls net p n)

-- inwards no broker comes before one that is deeper
pub inwards_falls : (net : Net) (p : ℕ) → Falls net p (inwards net p)
inwards_falls net p = down_falls net p net.brokers

-- a deeper broker stands in no list of brokers up to a depth
pub deeper_stands_not : (net : Net) (p d c : ℕ) (ys : List ℕ) → Each (λ y. net.depth p y ≤ d) ys → d < net.depth p c → stands ys c ≡ false
deeper_stands_not net p d c [] a l = refl
deeper_stands_not net p d c (y ∷ ys) a l = ap₂ (λ x z. x || z) (ne_eqb y c (λ e. omega (arith, a.0, l, ap (net.depth p) e))) (deeper_stands_not net p d c ys a.1 l)

-- each deeper broker comes later
abbrev pub AllDeeper : Net → ℕ → List ℕ → Type 0
AllDeeper net p [] = Unit {0}
AllDeeper net p (b ∷ bs) = ((c : ℕ) → c < net.brokers → net.depth p b < net.depth p c → stands bs c ≡ true) × AllDeeper net p bs

deeper_on : (net : Net) (p d : ℕ) (xs ys : List ℕ) → Each (λ x. net.depth p x ≡ d) xs → ((c : ℕ) → c < net.brokers → d < net.depth p c → stands ys c ≡ true) → AllDeeper net p ys → AllDeeper net p (xs ++ ys)
deeper_on net p d [] ys a l f = f
deeper_on net p d (x ∷ xs) ys a l f = (λ c i m. stands-append xs ys c ∙ or_right (stands xs c) (stands ys c) (l c i (omega (arith, m, a.0))), deeper_on net p d xs ys a.1 l f)

up_deeper : (net : Net) (p a n : ℕ) → ((c : ℕ) → c < net.brokers → net.depth p c < a + n) → AllDeeper net p (flat_map (at_depth net p) (numbers_from a n))
up_deeper net p a zero h = tt
up_deeper net p a (suc n) h = deeper_on net p a (at_depth net p a) (flat_map (at_depth net p) (numbers_from (suc a) n)) (depths_are net p a) (λ c i l. stands_up net p c (suc a) n i (omega (arith, l)) (omega (arith, h c i))) (up_deeper net p (suc a) n (λ c i. omega (arith, h c i)))

-- outwards no broker comes after one that is deeper
pub outwards_deeper : (net : Net) (p : ℕ) → ((c : ℕ) → c < net.brokers → net.depth p c < net.brokers) → AllDeeper net p (outwards net p)
outwards_deeper net p h = up_deeper net p 0 net.brokers (λ c i. omega (arith, h c i))

-- No broker twice

each_stands_not : (P : ℕ → Type 0) (xs : List ℕ) (b : ℕ) → Each P xs → (P b → ⊥) → stands xs b ≡ false
each_stands_not P [] b a n = refl
each_stands_not P (x ∷ xs) b a n = ap₂ (λ y z. y || z) (ne_eqb x b (λ e. n (subst P e a.0))) (each_stands_not P xs b a.1 n)

numbers_above : (a n k : ℕ) → k ≤ a → Each (λ x. k ≤ x) (numbers_from a n)
numbers_above a zero k l = tt
numbers_above a (suc n) k l = (l, numbers_above (suc a) n k (omega (arith, l)))

numbers_once : (a n : ℕ) → IsDistinct (numbers_from a n)
numbers_once a zero = tt
numbers_once a (suc n) = (each_stands_not (λ x. suc a ≤ x) (numbers_from (suc a) n) a (numbers_above (suc a) n (suc a) (omega arith)) (λ l. omega (arith, l)), numbers_once (suc a) n)

kept_stands_not : (test : ℕ → Bool) (xs : List ℕ) (b : ℕ) → stands xs b ≡ false → stands (filter test xs) b ≡ false
kept_stands_not test [] b e = refl
kept_stands_not test (x ∷ xs) b e =
    let parts = neither (nat_eq x b) (stands xs b) e in
    elim (cases_Bool (test x)) [
      | inl y ↦ rw y (ap₂ (λ u v. u || v) parts.0 (kept_stands_not test xs b parts.1))
      | inr y ↦ rw y (kept_stands_not test xs b parts.1)
    ]
  where
    neither : (x y : Bool) → (x || y) ≡ false → (x ≡ false) × (y ≡ false)
    neither true y e = absurd (false≢true (sym e))
    neither false y e = (refl, e)

kept_once : (test : ℕ → Bool) (xs : List ℕ) → IsDistinct xs → IsDistinct (filter test xs)
kept_once test [] d = tt
kept_once test (x ∷ xs) d =
    elim (cases_Bool (test x)) [
      | inl y ↦ rw y (kept_stands_not test xs x d.0, kept_once test xs d.1)
      | inr y ↦ rw y (kept_once test xs d.1)
    ]

once_on : (xs ys : List ℕ) → IsDistinct xs → IsDistinct ys → Each (λ x. stands ys x ≡ false) xs → IsDistinct (xs ++ ys)
once_on [] ys a b n = b
once_on (x ∷ xs) ys a b n = (stands-append xs ys x ∙ ap₂ (λ u v. u || v) a.0 n.0, once_on xs ys a.1 b n.1)

up_above : (net : Net) (p a n k : ℕ) → k ≤ a → Each (λ y. k ≤ net.depth p y) (flat_map (at_depth net p) (numbers_from a n))
up_above net p a zero k l = tt
up_above net p a (suc n) k l = Each-join (λ y. k ≤ net.depth p y) (at_depth net p a) (flat_map (at_depth net p) (numbers_from (suc a) n)) (Each-map (λ y. net.depth p y ≡ a) (λ y. k ≤ net.depth p y) (at_depth net p a) (λ y e. omega (arith, e, l)) (depths_are net p a)) (up_above net p (suc a) n k (omega (arith, l)))

up_once : (net : Net) (p a n : ℕ) → IsDistinct (flat_map (at_depth net p) (numbers_from a n))
up_once net p a zero = tt
up_once net p a (suc n) =
    once_on (at_depth net p a) (flat_map (at_depth net p) (numbers_from (suc a) n)) (kept_once (λ x. nat_eq (net.depth p x) a) (numbers net.brokers) (numbers_once 0 net.brokers)) (up_once net p (suc a) n)
    (Each-map (λ x. net.depth p x ≡ a) (λ x. stands (flat_map (at_depth net p) (numbers_from (suc a) n)) x ≡ false) (at_depth net p a) (λ x e. each_stands_not (λ y. suc a ≤ net.depth p y) (flat_map (at_depth net p) (numbers_from (suc a) n)) x (up_above net p (suc a) n (suc a) (omega arith)) (λ l. omega (arith, l, e))) (depths_are net p a))

-- outwards each broker comes once
pub outwards_once : (net : Net) (p : ℕ) → IsDistinct (outwards net p)
outwards_once net p = up_once net p 0 net.brokers
