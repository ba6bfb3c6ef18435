-- What stands in a rising list after something was put into it, and that it still rises
use Rattle.std.proofs.Common.{◌≡◌, Bool, true, false, List, [], ◌∷◌, ◌++◌, refl, sym, ap, ◌∙◌, subst, ◌⊎◌, inl, inr}
use Rattle.std.specs.List.{AllByRecursion, list_any}
use Rattle.std.specs.List.Sorted.{IsStrictlySortedBy}
use Rattle.std.specs.Cmp.{IsTotalOrder}
use Rattle.std.specs.Cmp.Lexicographic.{slice_cmp, bytes_decides}
use Rattle.std.specs.Ordering.{nat_cmp, bool_cmp, is_eq, ordering_reverse}
use Rattle.std.specs.declared.cmp.Ordering.{Ordering}
use Rattle.std.specs.declared.cmp.Ordering.TheVariants.{Less, Equal, Greater}
use Rattle.std.proofs.lemmas.Bool.{false≢true, or_cases, or_left, or_right}
use Rattle.std.proofs.lemmas.Bool.Decides.{Decides-int_eq}
use Rattle.std.proofs.lemmas.Map.Text.{is_eq-slice_cmp}
use Rattle.gr_event.specs.declared.value.Value.{Value}
use Rattle.gr_event.specs.declared.value.Value.TheVariants.{Int, Text, Bool as Truth}
use Rattle.gr_event.specs.Event.{same_value}
use Rattle.gr_cover.specs.Candidates.{value_cmp, inserted, with_all}

-- x is one of the list
abbrev pub Stands : {X : Type 0} → X → List X → Type 0
Stands x [] = ⊥
Stands x (y ∷ ys) = (x ≡ y) ⊎ Stands x ys

-- what is equal by the order is the same
abbrev pub Exact : {X : Type 0} → (X → X → Ordering) → Type 0
Exact {X} cmp = (x y : X) → cmp x y ≡ Equal → x ≡ y

-- what holds of all holds of each
pub at_one : {X : Type 0} (P : X → Type 0) (x : X) (xs : List X) → AllByRecursion P xs → Stands x xs → P x
at_one P x [] h s = absurd s
at_one P x (y ∷ ys) h (inl e) = subst P (sym e) h.0
at_one P x (y ∷ ys) h (inr s) = at_one P x ys h.1 s

-- what stands in one of two lists stands in both together
pub left_stands : {X : Type 0} (x : X) (xs ys : List X) → Stands x xs → Stands x (xs ++ ys)
left_stands x [] ys s = absurd s
left_stands x (z ∷ zs) ys (inl e) = inl e
left_stands x (z ∷ zs) ys (inr s) = inr (left_stands x zs ys s)

pub right_stands : {X : Type 0} (x : X) (xs ys : List X) → Stands x ys → Stands x (xs ++ ys)
right_stands x [] ys s = s
right_stands x (z ∷ zs) ys s = inr (right_stands x zs ys s)

-- Putting in

-- what was put in stands there
pub put_stands : {X : Type 0} (cmp : X → X → Ordering) (x : X) (ys : List X) → Exact cmp → Stands x (inserted cmp x ys)
put_stands cmp x [] exact = inl refl
put_stands cmp x (y ∷ ys) exact = go (cmp x y) refl (put_stands cmp x ys exact)
  where
    go : (o : Ordering) → cmp x y ≡ o → Stands x (inserted cmp x ys) → Stands x (elim o [ Less ↦ x ∷ y ∷ ys | Equal ↦ y ∷ ys | Greater ↦ y ∷ inserted cmp x ys ])
    go Less e h = inl refl
    go Equal e h = inl (exact x y e)
    go Greater e h = inr h

-- what stood there stands there still
pub kept_stands : {X : Type 0} (cmp : X → X → Ordering) (x z : X) (ys : List X) → Stands z ys → Stands z (inserted cmp x ys)
kept_stands cmp x z [] s = absurd s
kept_stands cmp x z (y ∷ ys) s = go (cmp x y) s (kept_stands cmp x z ys)
  where
    go : (o : Ordering) → (z ≡ y) ⊎ Stands z ys → (Stands z ys → Stands z (inserted cmp x ys)) → Stands z (elim o [ Less ↦ x ∷ y ∷ ys | Equal ↦ y ∷ ys | Greater ↦ y ∷ inserted cmp x ys ])
    go Less h k = inr h
    go Equal h k = h
    go Greater (inl e) k = inl e
    go Greater (inr h) k = inr (k h)

-- what holds of all that stood there, and of what is put in, holds of all
pub all_put : {X : Type 0} (P : X → Type 0) (cmp : X → X → Ordering) (x : X) (ys : List X) → P x → AllByRecursion P ys → AllByRecursion P (inserted cmp x ys)
all_put P cmp x [] p h = (p, tt)
all_put P cmp x (y ∷ ys) p h = go (cmp x y) (all_put P cmp x ys p h.1)
  where
    go : (o : Ordering) → AllByRecursion P (inserted cmp x ys) → AllByRecursion P (elim o [ Less ↦ x ∷ y ∷ ys | Equal ↦ y ∷ ys | Greater ↦ y ∷ inserted cmp x ys ])
    go Less k = (p, h)
    go Equal k = h
    go Greater k = (h.0, k)

-- what stood there stands there still, once all are put in
pub all_kept : {X : Type 0} (cmp : X → X → Ordering) (z : X) (ys xs : List X) → Stands z ys → Stands z (with_all cmp ys xs)
all_kept cmp z ys [] s = s
all_kept cmp z ys (x ∷ xs) s = all_kept cmp z (inserted cmp x ys) xs (kept_stands cmp x z ys s)

-- each of the second list stands in the first once all are put in
pub each_stands : {X : Type 0} (cmp : X → X → Ordering) (z : X) (ys xs : List X) → Exact cmp → Stands z xs → Stands z (with_all cmp ys xs)
each_stands cmp z ys [] exact s = absurd s
each_stands cmp z ys (x ∷ xs) exact (inl e) = subst (λ w. Stands w (with_all cmp (inserted cmp x ys) xs)) (sym e) (all_kept cmp x (inserted cmp x ys) xs (put_stands cmp x ys exact))
each_stands cmp z ys (x ∷ xs) exact (inr s) = each_stands cmp z (inserted cmp x ys) xs exact s

-- what holds of all of two lists holds of all once they are one
pub all_with : {X : Type 0} (P : X → Type 0) (cmp : X → X → Ordering) (ys xs : List X) → AllByRecursion P ys → AllByRecursion P xs → AllByRecursion P (with_all cmp ys xs)
all_with P cmp ys [] h k = h
all_with P cmp ys (x ∷ xs) h k = all_with P cmp (inserted cmp x ys) xs (all_put P cmp x ys k.0 h) k.1

-- Rising

abbrev Above : {X : Type 0} → (X → X → Ordering) → X → List X → Type 0
Above cmp x ys = AllByRecursion (λ y. cmp x y ≡ Less) ys

above_all : {X : Type 0} (cmp : X → X → Ordering) (x y : X) (ys : List X) → IsTotalOrder cmp → cmp x y ≡ Less → Above cmp y ys → Above cmp x ys
above_all cmp x y [] o e h = tt
above_all cmp x y (z ∷ zs) o e h = (o.trans x y z e h.0, above_all cmp x y zs o e h.1)

less_back : (o p : Ordering) → o ≡ ordering_reverse p → p ≡ Greater → o ≡ Less
less_back o p e h = e ∙ ap ordering_reverse h

rise_put : {X : Type 0} (cmp : X → X → Ordering) (x : X) (ys : List X) → IsTotalOrder cmp → IsStrictlySortedBy cmp ys → IsStrictlySortedBy cmp (inserted cmp x ys)
unfolding IsStrictlySortedBy
rise_put cmp x [] o h = (tt, tt)
rise_put cmp x (y ∷ ys) o h = go (cmp x y) refl (rise_put cmp x ys o h.1)
  where
    go : (r : Ordering) → cmp x y ≡ r → IsStrictlySortedBy cmp (inserted cmp x ys) → IsStrictlySortedBy cmp (elim r [ Less ↦ x ∷ y ∷ ys | Equal ↦ y ∷ ys | Greater ↦ y ∷ inserted cmp x ys ])
    go Less e k = ((e, above_all cmp x y ys o e h.0), h)
    go Equal e k = h
    go Greater e k = (all_put (λ z. cmp y z ≡ Less) cmp x ys (less_back (cmp y x) (cmp x y) (o.antisymm y x) e) h.0, k)

-- a rising list into which all of another are put still rises
pub rise_with : {X : Type 0} (cmp : X → X → Ordering) (ys xs : List X) → IsTotalOrder cmp → IsStrictlySortedBy cmp ys → IsStrictlySortedBy cmp (with_all cmp ys xs)
rise_with cmp ys [] o h = h
rise_with cmp ys (x ∷ xs) o h = rise_with cmp (inserted cmp x ys) xs o (rise_put cmp x ys o h)

-- no elements rise
pub rise_none : {X : Type 0} (cmp : X → X → Ordering) → IsStrictlySortedBy cmp []
unfolding IsStrictlySortedBy
rise_none cmp = tt

-- Values and names

-- texts, and values, that are equal by their order are the same
pub texts_exact : Exact (slice_cmp nat_cmp)
texts_exact x y e = (bytes_decides x y).0 (sym (is_eq-slice_cmp x y) ∙ ap is_eq e)

bools_exact : (a b : Bool) → bool_cmp a b ≡ Equal → a ≡ b
bools_exact true true e = refl
bools_exact false false e = refl
bools_exact true false e = cc
bools_exact false true e = cc

pub values_exact : Exact value_cmp
values_exact (Truth a) (Truth b) e = ap (λ x. Truth x) (bools_exact a b e)
values_exact (Int a) (Int b) e = ap (λ x. Int x) ((Decides-int_eq a b).0 (ap is_eq e))
values_exact (Text a) (Text b) e = ap (λ x. Text x) (texts_exact a b e)
values_exact (Truth a) (Int b) e = cc
values_exact (Truth a) (Text b) e = cc
values_exact (Int a) (Truth b) e = cc
values_exact (Int a) (Text b) e = cc
values_exact (Text a) (Truth b) e = cc
values_exact (Text a) (Int b) e = cc

value_equal : (a b : Value) → same_value a b ≡ true → a ≡ b
value_equal (Int a) (Int b) h = ap (λ x. Int x) ((Decides-int_eq a b).0 h)
value_equal (Text a) (Text b) h = ap (λ x. Text x) ((bytes_decides a b).0 h)
value_equal (Truth true) (Truth true) h = refl
value_equal (Truth false) (Truth false) h = refl
value_equal (Truth true) (Truth false) h = absurd (false≢true h)
value_equal (Truth false) (Truth true) h = absurd (false≢true h)
value_equal (Int a) (Text b) h = absurd (false≢true h)
value_equal (Int a) (Truth b) h = absurd (false≢true h)
value_equal (Text a) (Int b) h = absurd (false≢true h)
value_equal (Text a) (Truth b) h = absurd (false≢true h)
value_equal (Truth a) (Int b) h = absurd (false≢true h)
value_equal (Truth a) (Text b) h = absurd (false≢true h)

value_itself : (a : Value) → same_value a a ≡ true
value_itself (Int a) = (Decides-int_eq a a).1 refl
value_itself (Text a) = (bytes_decides a a).1 refl
value_itself (Truth true) = refl
value_itself (Truth false) = refl

-- the test for a value is true of those that stand in a list alone
pub stands_from_any : (x : Value) (vs : List Value) → list_any (same_value x) vs ≡ true → Stands x vs
stands_from_any x [] h = absurd (false≢true h)
stands_from_any x (v ∷ vs) h =
    elim (or_cases (same_value x v) (list_any (same_value x) vs) h) [
      | inl e ↦ inl (value_equal x v e)
      | inr k ↦ inr (stands_from_any x vs k)
    ]

pub any_from_stands : (x : Value) (vs : List Value) → Stands x vs → list_any (same_value x) vs ≡ true
any_from_stands x [] s = absurd s
any_from_stands x (v ∷ vs) (inl e) = or_left (same_value x v) (list_any (same_value x) vs) (subst (λ w. same_value x w ≡ true) e (value_itself x))
any_from_stands x (v ∷ vs) (inr s) = or_right (same_value x v) (list_any (same_value x) vs) (any_from_stands x vs s)
