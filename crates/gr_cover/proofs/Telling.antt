-- Each value of a name has a candidate that no literal of the name tells from it
use Rattle.std.proofs.Common.{◌≡◌, ℕ, zero, suc, ◌+◌, ◌<◌, ◌≤◌, ℤ, pos, ◌<ℤ◌, ◌+ℤ◌, ◌-ℤ◌, Bool, true, false, List, [], ◌∷◌, ◌++◌, length, Option, Some, None, refl, sym, ap, ◌∙◌, subst, ◌⊎◌, inl, inr, arith, FitsSigned, cond, length-append}
use Rattle.std.specs.Prelude.{bytes_eq, int_lt, nat_le}
use Rattle.std.specs.Int.{w64}
use Rattle.std.specs.List.{flat_map, list_any}
use Rattle.std.specs.Option.{is_some}
use Rattle.std.specs.Cmp.Lexicographic.{bytes_decides}
use Rattle.std.proofs.lemmas.Bool.{false≢true, cases_Bool, false_from_ne_true, le-leb}
use Rattle.std.proofs.lemmas.Int.{ints}
use Rattle.gr_event.specs.declared.value.Value.{Value}
use Rattle.gr_event.specs.declared.value.Value.TheVariants.{Int, Text, Bool as Truth}
use Rattle.gr_event.specs.Event.{same_value}
use Rattle.gr_event.specs.Limits.{IsValue}
use Rattle.gr_filter.specs.Kleene.{known as is_known}
use Rattle.gr_filter.specs.Truth.{holds, holds_same}
use Rattle.gr_cover.specs.declared.mention.Mention.{Mention}
use Rattle.gr_cover.specs.Candidates.{value_cmp, inserted, least_integer, greatest_integer, near, values_near, values_at, known, is_integer, with_zero, spare_from, spare, with_text, attribute}
use Rattle.gr_cover.proofs.Agreeing.{Agrees}
use Rattle.gr_cover.proofs.Counting.{four}
use Rattle.gr_cover.proofs.Rising.{Stands, left_stands, right_stands, put_stands, kept_stands, all_kept, each_stands, values_exact, stands_from_any, any_from_stands}
use Rattle.gr_cover.proofs.Integers.{Below, AllAbove, Least, SameSide, IsNear, below, least, below_tells, least_tells}

-- a candidate of the name that none of its literals tells from v
pub record Told (ms : List Mention) (n : List ℕ) (v : Value) : Type 0 where
  pub value : Value
  pub stands : Stands value (attribute ms n).values
  pub agrees : (m : Mention) → Stands m ms → bytes_eq m.name n ≡ true → Agrees m.literal (Some v) (Some value)

-- What stands among the candidates

-- what stands in the part of an element stands in the parts of all
pub flat_stands : {X Y : Type 0} (f : X → List Y) (x : X) (y : Y) (xs : List X) → Stands x xs → Stands y (f x) → Stands y (flat_map f xs)
flat_stands f x y [] s h = absurd s
flat_stands f x y (z ∷ zs) (inl e) h = left_stands y (f z) (flat_map f zs) (subst (λ w. Stands y (f w)) e h)
flat_stands f x y (z ∷ zs) (inr s) h = right_stands y (f z) (flat_map f zs) (flat_stands f x y zs s h)

-- what the literal of a mention of the name gives is known
literal_known : (ms : List Mention) (n : List ℕ) (m : Mention) (v : Value) → Stands m ms → bytes_eq m.name n ≡ true → Stands v (values_near m.literal) → Stands v (known ms n)
literal_known ms n m v s e h =
    let here : Stands v (values_at n m) = rw e h in
    each_stands value_cmp v (Truth false ∷ Truth true ∷ []) (flat_map (values_at n) ms) values_exact (flat_stands (values_at n) m v ms s here)

with_text_kept : (o : Option (List ℕ)) (v : Value) (vs : List Value) → Stands v vs → Stands v (with_text o vs)
with_text_kept None v vs s = s
with_text_kept (Some t) v vs s = kept_stands value_cmp (Text t) v vs s

with_zero_kept : (v : Value) (vs : List Value) → Stands v vs → Stands v (with_zero vs)
with_zero_kept v vs s = go (list_any is_integer vs)
  where
    go : (b : Bool) → Stands v (cond b vs (inserted value_cmp (Int (pos 0)) vs))
    go true = s
    go false = kept_stands value_cmp (Int (pos 0)) v vs s

known_stands : (ms : List Mention) (n : List ℕ) (v : Value) → Stands v (known ms n) → Stands v (attribute ms n).values
known_stands ms n v s = with_text_kept (spare (known ms n)) v (with_zero (known ms n)) (with_zero_kept v (known ms n) s)

itself : (l : Option Value) (v : Value) → Agrees l (Some v) (Some v)
itself l v = record { alone = refl; absent = refl; left = λ s. refl; right = λ s. refl }

-- Truth values

truth_known : (ms : List Mention) (n : List ℕ) (b : Bool) → Stands (Truth b) (known ms n)
truth_known ms n true = all_kept value_cmp (Truth true) (Truth false ∷ Truth true ∷ []) (flat_map (values_at n) ms) (inr (inl refl))
truth_known ms n false = all_kept value_cmp (Truth false) (Truth false ∷ Truth true ∷ []) (flat_map (values_at n) ms) (inl refl)

told_truth : (ms : List Mention) (n : List ℕ) (b : Bool) → Told ms n (Truth b)
told_truth ms n b = record { value = Truth b; stands = known_stands ms n (Truth b) (truth_known ms n b); agrees = λ m s e. itself m.literal (Truth b) }

-- Texts

-- a text that is no value and that an event can have
pub record IsSpare (u : List ℕ) (vs : List Value) : Type 0 where
  pub other : list_any (same_value (Text u)) vs ≡ false
  pub short : length u ≤ 1024

-- two values that are there are equal where their options are
pub some_is : {X : Type 0} (x y : X) → Some x ≡ Some y → x ≡ y
some_is x y h = cc

spare_from_is : (k : ℕ) (t u : List ℕ) (vs : List Value) → length t + k ≤ 1025 → spare_from k t vs ≡ Some u → IsSpare u vs
unfolding spare_from
spare_from_is zero t u vs l h = absurd (cc)
spare_from_is (suc k) t u vs l h = go (list_any (same_value (Text t)) vs) refl h (spare_from_is k (t ++ 120 ∷ []) u vs (omega (arith, length-append t (120 ∷ []))))
  where
    go : (b : Bool) → list_any (same_value (Text t)) vs ≡ b → cond b (spare_from k (t ++ 120 ∷ []) vs) (Some t) ≡ Some u → (spare_from k (t ++ 120 ∷ []) vs ≡ Some u → IsSpare u vs) → IsSpare u vs
    go true e g later = later g
    go false e g later = let q = some_is t u g in subst (λ w. IsSpare w vs) q (record { other = e; short = omega arith })

-- the search for a spare text: it ends, it goes on, and nothing is left of it
pub spare_here : (k : ℕ) (t : List ℕ) (vs ws : List Value) → 0 < k → ws ≡ vs → list_any (same_value (Text t)) ws ≡ false → Some t ≡ spare_from k t vs
unfolding spare_from
spare_here zero t vs ws l q e = absurd (omega arith)
spare_here (suc k) t vs ws l q e = sym (ap (λ (b : Bool). cond b (spare_from k (t ++ 120 ∷ []) vs) (Some t)) (ap (list_any (same_value (Text t))) (sym q) ∙ e))

pub spare_more : (k j : ℕ) (t : List ℕ) (vs ws : List Value) → k ≡ suc j → ws ≡ vs → list_any (same_value (Text t)) ws ≡ true → spare_from j (t ++ 120 ∷ []) vs ≡ spare_from k t vs
unfolding spare_from
spare_more k j t vs ws n q e = sym (ap (λ i. spare_from i t vs) n ∙ ap (λ (b : Bool). cond b (spare_from j (t ++ 120 ∷ []) vs) (Some t)) (ap (list_any (same_value (Text t))) (sym q) ∙ e))

pub spare_end : (k : ℕ) (t : List ℕ) (vs : List Value) → k ≡ 0 → None ≡ spare_from k t vs
unfolding spare_from
spare_end k t vs n = ap (λ i. spare_from i t vs) (sym n)

-- a spare text is spare
pub spare_is : (u : List ℕ) (vs : List Value) → spare vs ≡ Some u → IsSpare u vs
unfolding spare
spare_is u vs h = spare_from_is 1024 (120 ∷ []) u vs (omega arith) h

-- a text that is no value equals no literal
unequal : (t y : List ℕ) (vs : List Value) → IsSpare t vs → (nat_le (length y) 1024 ≡ true → Stands (Text y) vs) → (bytes_eq t y ≡ false) × (bytes_eq y t ≡ false)
unequal t y vs is h = (
  false_from_ne_true (bytes_eq t y) (λ e. differ ((bytes_decides t y).0 e)),
  false_from_ne_true (bytes_eq y t) (λ e. differ (sym ((bytes_decides y t).0 e))),
)
  where
    differ : t ≡ y → ⊥
    differ e =
        let short : nat_le (length y) 1024 ≡ true = le-leb (length y) 1024 (subst (λ w. length w ≤ 1024) e is.short) in
        false≢true (sym is.other ∙ any_from_stands (Text t) vs (subst (λ w. Stands (Text w) vs) (sym e) (h short)))

text_value : (t : List ℕ) → nat_le (length t) 1024 ≡ true → Stands (Text t) (values_near (Some (Text t)))
text_value t h = rw h (inl refl)

-- two texts that are no literals are told apart by none
other_texts : (ms : List Mention) (n : List ℕ) (t u : List ℕ) (m : Mention) (l : Option Value) → m.literal ≡ l → IsSpare t (known ms n) → IsSpare u (known ms n) → Stands m ms → bytes_eq m.name n ≡ true
    → Agrees l (Some (Text t)) (Some (Text u))
other_texts ms n t u m None q p r s e = record { alone = refl; absent = refl; left = λ g. refl; right = λ g. refl }
other_texts ms n t u m (Some (Int z)) q p r s e = record { alone = refl; absent = refl; left = λ g. refl; right = λ g. refl }
other_texts ms n t u m (Some (Truth b)) q p r s e = record { alone = refl; absent = refl; left = λ g. refl; right = λ g. refl }
other_texts ms n t u m (Some (Text y)) q p r s e =
    let stands = λ (h : nat_le (length y) 1024 ≡ true). literal_known ms n m (Text y) s e (subst (λ w. Stands (Text y) (values_near w)) (sym q) (text_value y h)) in
    let a = unequal t y (known ms n) p stands in
    let b = unequal u y (known ms n) r stands in
    record {
      alone = refl;
      absent = refl;
      left = λ g. ap (λ x. is_known (holds_same g x)) (a.0 ∙ sym b.0);
      right = λ g. ap (λ x. is_known (holds_same g x)) (a.1 ∙ sym b.1);
    }

text_stands : (u : List ℕ) (vs : List Value) (o : Option (List ℕ)) → o ≡ Some u → Stands (Text u) (with_text o vs)
text_stands u vs o e = rw e (put_stands value_cmp (Text u) vs values_exact)

some_from : {X : Type 0} (o : Option X) → is_some o ≡ true → (x : X) × (o ≡ Some x)
some_from None h = absurd (false≢true h)
some_from (Some x) h = (x, refl)

told_text : (ms : List Mention) (n t : List ℕ) → length t ≤ 1024 → (attribute ms n).has_spare ≡ true → Told ms n (Text t)
told_text ms n t short has =
    elim (cases_Bool (list_any (same_value (Text t)) (known ms n))) [
      | inl h ↦ record { value = Text t; stands = known_stands ms n (Text t) (stands_from_any (Text t) (known ms n) h); agrees = λ m s e. itself m.literal (Text t) }
      | inr h ↦ let u = some_from (spare (known ms n)) has in record {
        value = Text u.0;
        stands = text_stands u.0 (with_zero (known ms n)) (spare (known ms n)) u.1;
        agrees = λ m s e. other_texts ms n t u.0 m m.literal refl (record { other = h; short = short }) (spare_is u.0 (known ms n) u.1) s e;
      }
    ]

-- Integers

abbrev integers : List Value → List ℤ
integers [] = []
integers (Int z ∷ vs) = z ∷ integers vs
integers (Text t ∷ vs) = integers vs
integers (Truth b ∷ vs) = integers vs

to_integers : (z : ℤ) (vs : List Value) → Stands (Int z) vs → Stands z (integers vs)
to_integers z [] s = absurd s
to_integers z (Int x ∷ vs) (inl e) = inl (cc)
to_integers z (Int x ∷ vs) (inr s) = inr (to_integers z vs s)
to_integers z (Text t ∷ vs) (inl e) = absurd (cc)
to_integers z (Text t ∷ vs) (inr s) = to_integers z vs s
to_integers z (Truth b ∷ vs) (inl e) = absurd (cc)
to_integers z (Truth b ∷ vs) (inr s) = to_integers z vs s

from_integers : (z : ℤ) (vs : List Value) → Stands z (integers vs) → Stands (Int z) vs
from_integers z [] s = absurd s
from_integers z (Int x ∷ vs) (inl e) = inl (ap (λ w. Int w) e)
from_integers z (Int x ∷ vs) (inr s) = inr (from_integers z vs s)
from_integers z (Text t ∷ vs) s = inr (from_integers z vs s)
from_integers z (Truth b ∷ vs) s = inr (from_integers z vs s)

some_integer : (vs : List Value) → list_any is_integer vs ≡ true → (z : ℤ) × Stands (Int z) vs
some_integer [] h = absurd (false≢true h)
some_integer (Int z ∷ vs) h = (z, inl refl)
some_integer (Text t ∷ vs) h = let k = some_integer vs h in (k.0, inr k.1)
some_integer (Truth b ∷ vs) h = let k = some_integer vs h in (k.0, inr k.1)

-- with 0 there is an integer
zero_integer : (vs : List Value) → (z : ℤ) × Stands (Int z) (with_zero vs)
zero_integer vs = go (list_any is_integer vs) refl
  where
    go : (b : Bool) → list_any is_integer vs ≡ b → (z : ℤ) × Stands (Int z) (cond b vs (inserted value_cmp (Int (pos 0)) vs))
    go true e = some_integer vs e
    go false e = (pos 0, put_stands value_cmp (Int (pos 0)) vs values_exact)

test_true : (a b : ℤ) → a <ℤ b → int_lt a b ≡ true
test_true a b h = grind (arith, ints)

near_itself : (k : ℤ) → Stands (Int k) (near k)
near_itself k = right_stands (Int k) (cond (int_lt least_integer k) (Int (k -ℤ pos 1) ∷ []) []) (Int k ∷ cond (int_lt k greatest_integer) (Int (k +ℤ pos 1) ∷ []) []) (inl refl)

near_lower : (k : ℤ) → int_lt least_integer k ≡ true → Stands (Int (k -ℤ pos 1)) (near k)
near_lower k h = rw h (inl refl)

near_upper : (k : ℤ) → int_lt k greatest_integer ≡ true → Stands (Int (k +ℤ pos 1)) (near k)
near_upper k h =
    right_stands (Int (k +ℤ pos 1)) (cond (int_lt least_integer k) (Int (k -ℤ pos 1) ∷ []) []) (Int k ∷ cond (int_lt k greatest_integer) (Int (k +ℤ pos 1) ∷ []) []) (inr (rw h (inl refl)))

-- a literal and its neighbours stand among the candidates
near_stands : (ms : List Mention) (n : List ℕ) (m : Mention) (k : ℤ) → m.literal ≡ Some (Int k) → Stands m ms → bytes_eq m.name n ≡ true → IsNear k (integers (attribute ms n).values)
near_stands ms n m k q s e = record {
  itself = stands k (near_itself k);
  lower = λ h. stands (k -ℤ pos 1) (near_lower k (test_true least_integer k h));
  upper = λ h. stands (k +ℤ pos 1) (near_upper k (test_true k greatest_integer h));
}
  where
    stands : (x : ℤ) → Stands (Int x) (near k) → Stands x (integers (attribute ms n).values)
    stands x h = to_integers x (attribute ms n).values (known_stands ms n (Int x) (literal_known ms n m (Int x) s e (subst (λ w. Stands (Int x) (values_near w)) (sym q) h)))

-- an integer that stands to each literal as z does is told from it by none
other_integers : (z x : ℤ) (l : Option Value) → ((k : ℤ) → l ≡ Some (Int k) → SameSide z x k) → Agrees l (Some (Int z)) (Some (Int x))
other_integers z x None h = record { alone = refl; absent = refl; left = λ g. refl; right = λ g. refl }
other_integers z x (Some (Text t)) h = record { alone = refl; absent = refl; left = λ g. refl; right = λ g. refl }
other_integers z x (Some (Truth b)) h = record { alone = refl; absent = refl; left = λ g. refl; right = λ g. refl }
other_integers z x (Some (Int k)) h = let s = h k refl in record {
  alone = refl;
  absent = refl;
  left = λ g. ap (λ o. is_known (holds g o)) s.left;
  right = λ g. ap (λ o. is_known (holds g o)) s.right;
}

has_integers : (ms : List Mention) (n : List ℕ) → (z : ℤ) × Stands z (integers (attribute ms n).values)
has_integers ms n =
    let k = zero_integer (known ms n) in
    (k.0, to_integers k.0 (attribute ms n).values (with_text_kept (spare (known ms n)) (Int k.0) (with_zero (known ms n)) k.1))

-- a list with an element has a least
least_of : (z : ℤ) (xs : List ℤ) → Stands z xs → Least xs
least_of z [] s = absurd s
least_of z (x ∷ xs) s = least x xs

told_integer : (ms : List Mention) (n : List ℕ) (z : ℤ) → FitsSigned w64 z → Told ms n (Int z)
told_integer ms n z f = go (below z (integers (attribute ms n).values))
  where
    go : Below z (integers (attribute ms n).values) ⊎ AllAbove z (integers (attribute ms n).values) → Told ms n (Int z)
    go (inl b) = record {
      value = Int b.value;
      stands = from_integers b.value (attribute ms n).values b.stands;
      agrees = λ m s e. other_integers z b.value m.literal (λ k q. below_tells z k (integers (attribute ms n).values) b f (near_stands ms n m k q s e));
    }
    go (inr above) =
        let some = has_integers ms n in
        let b : Least (integers (attribute ms n).values) = least_of some.0 (integers (attribute ms n).values) some.1 in
        record {
          value = Int b.value;
          stands = from_integers b.value (attribute ms n).values b.stands;
          agrees = λ m s e. other_integers z b.value m.literal (λ k q. least_tells z k (integers (attribute ms n).values) b above f (near_stands ms n m k q s e));
        }

-- each value has a candidate that no literal of the name tells from it
pub told : (ms : List Mention) (n : List ℕ) (v : Value) → IsValue v → (attribute ms n).has_spare ≡ true → Told ms n v
told ms n (Truth b) is has = told_truth ms n b
told ms n (Text t) is has = told_text ms n t is.0 has
told ms n (Int z) is has = told_integer ms n z is

-- both truth values, an integer and a text are candidates of each name
pub four_values : (ms : List Mention) (n : List ℕ) → (attribute ms n).has_spare ≡ true → 4 ≤ length (attribute ms n).values
four_values ms n has =
    let z = has_integers ms n in
    let u = some_from (spare (known ms n)) has in
    four (attribute ms n).values z.0 u.0 (known_stands ms n (Truth false) (truth_known ms n false)) (known_stands ms n (Truth true) (truth_known ms n true))
    (from_integers z.0 (attribute ms n).values z.1) (text_stands u.0 (with_zero (known ms n)) (spare (known ms n)) u.1)
