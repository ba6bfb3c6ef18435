-- Bytes that are text, and numbers in bytes
use Rattle.std.proofs.Common.{◌≡◌, ◌<◌, ◌≤◌, ◌+◌, ◌-◌, suc, zero, ℕ, arith, rules, length, drop, nat_cmp, Less, append-nil, if◌then◌else◌, ◌==◌, [], ◌∷◌, ◌++◌, ap, List, Bool, true, false, Result, Ok, Err, sym, ◌∙◌, refl}
use Rattle.std.proofs.lemmas.List.{drop_all, map-append}
use Rattle.std.proofs.lemmas.Cmp.{nat_list_cmp_total}
use Rattle.std.specs.List.{AllByRecursion}
use Rattle.std.specs.List.Sorted.{IsStrictlySortedBy}
use Rattle.std.specs.Cmp.Lexicographic.{slice_cmp}
use Rattle.gr_event.specs.declared.value.Value.{Value}
use Rattle.gr_event.specs.declared.event.Event.{Event}
use Rattle.gr_event.specs.declared.event.EventFault.{EventFault}
use Rattle.gr_event.specs.declared.event.EventFault.TheVariants as fault
use Rattle.gr_event.specs.Event.{value_size, pairs_size}
use Rattle.gr_event.specs.Limits.{names, Rise, IsPair}
use Rattle.gr_event.specs.Decode.{name_at, value_at, pairs_at}
use Rattle.gr_event.proofs.Reading.{with_front, after}
use Rattle.std.specs.Prelude.{IsUtf8, MatchResult, is_ok}
use Rattle.std.specs.Str.{is_utf8}
use Rattle.std.proofs.lemmas.Str.{is_utf8-from_IsUtf8, IsUtf8-from_is_utf8}

not_true : (b : Bool) → (b ≡ true → ⊥) → b ≡ false
not_true true h = absurd (h refl)
not_true false h = refl

-- reading bytes as text succeeds exactly at UTF-8
pub text_test : {A E : Type 0} (P : A → Type 0) (Q : E → Type 0) (t : List ℕ) (r : Result A E) → MatchResult r (λ s. P s × IsUtf8 t) (λ e. (IsUtf8 t → ⊥) × Q e) → is_ok r ≡ is_utf8 t
text_test P Q t (Ok s) h = sym (is_utf8-from_IsUtf8 t h.1)
text_test P Q t (Err e) h = sym (not_true (is_utf8 t) (λ k. h.0 (IsUtf8-from_is_utf8 t k)))

-- what passed the test is UTF-8
pub told_text : (b : Bool) (t : List ℕ) → b ≡ true → b ≡ is_utf8 t → IsUtf8 t
told_text b t holds is = IsUtf8-from_is_utf8 t (sym is ∙ holds)

-- nothing lies behind the last byte
pub nothing_left : (xs ys : List ℕ) (n : ℕ) → length xs ≡ n → ys ++ drop n xs ≡ ys
nothing_left xs ys n h = ap (λ l. ys ++ l) (drop_all n xs (omega arith)) ∙ append-nil ys

-- Pair by pair

-- a pair that was read goes behind the front
pub pair_read : (found more : Event) (bytes before name : List ℕ) (value : Value) (m n at next : ℕ) (all : Result Event EventFault)
    → more ≡ found ++ (name, value) ∷ [] → m ≡ suc n → next ≡ at + 2 + length name + value_size value
    → name_at bytes at before ≡ Ok name → value_at bytes (at + 1 + length name) ≡ Ok value
    → with_front found (pairs_at bytes m at before) ≡ all → with_front more (pairs_at bytes n next name) ≡ all
unfolding pairs_at
pair_read found more bytes before name value m n at next all l d e a b so_far =
    ap (λ f. with_front f (pairs_at bytes n next name)) l
    ∙ ap (λ k. with_front (found ++ (name, value) ∷ []) (pairs_at bytes n k name)) e
    ∙ sym (after found (name, value) (pairs_at bytes n (at + 2 + length name + value_size value) name)) ∙ (rw (d, a, b) at so_far)

-- a name or a value that was refused refuses all
pub name_refused : (found : Event) (bytes before : List ℕ) (m n at : ℕ) (e : EventFault) (all : Result Event EventFault)
    → m ≡ suc n → name_at bytes at before ≡ Err e → with_front found (pairs_at bytes m at before) ≡ all → all ≡ Err e
unfolding pairs_at
name_refused found bytes before m n at e all d a so_far = sym so_far ∙ rw (d, a) refl

pub value_refused : (found : Event) (bytes before name : List ℕ) (m n at : ℕ) (e : EventFault) (all : Result Event EventFault)
    → m ≡ suc n → name_at bytes at before ≡ Ok name → value_at bytes (at + 1 + length name) ≡ Err e
    → with_front found (pairs_at bytes m at before) ≡ all → all ≡ Err e
unfolding pairs_at
value_refused found bytes before name m n at e all d a b so_far = sym so_far ∙ rw (d, a, b) refl

-- what is known in front of a place, where some of the pairs were read
pub record ReadSoFar (bytes before : List ℕ) (found : Event) (count done at : ℕ) : Type 0 where
  pub place : at ≡ 1 + pairs_size found
  pub inside : at ≤ length bytes
  pub read : with_front found (pairs_at bytes (count - done) at before) ≡ pairs_at bytes count 1 []
  pub each : AllByRecursion IsPair found
  pub many : length found ≡ done
  pub rise : Rise (names found)
  pub above : (n : List ℕ) → slice_cmp nat_cmp before n ≡ Less → Rise (names found ++ n ∷ [])

at_end : (found : Event) (bytes before : List ℕ) (at : ℕ) (b : Bool) → (at == length bytes) ≡ b
    → with_front found (pairs_at bytes zero at before) ≡ (if b then Ok found else Err (fault.Trailing at))
unfolding pairs_at
at_end found bytes before at true e = rw e (ap (λ l. Ok l) (append-nil found))
at_end found bytes before at false e = rw e refl

same_place : (a b : ℕ) → a ≡ b → (a == b) ≡ true
same_place a b h = grind (arith, rules)

other_place : (a b : ℕ) → a < b → (a == b) ≡ false
other_place a b h = grind (arith, rules)

-- after the last pair
pub ends : (found : Event) (bytes before : List ℕ) (n at : ℕ) (all : Result Event EventFault) → n ≡ 0 → at ≡ length bytes
    → with_front found (pairs_at bytes n at before) ≡ all → all ≡ Ok found
ends found bytes before n at all z e so_far =
    sym so_far ∙ ap (λ k. with_front found (pairs_at bytes k at before)) z ∙ at_end found bytes before at true (same_place at (length bytes) e)

pub trails : (found : Event) (bytes before : List ℕ) (n at : ℕ) (all : Result Event EventFault) → n ≡ 0 → at < length bytes
    → with_front found (pairs_at bytes n at before) ≡ all → all ≡ Err (fault.Trailing at)
trails found bytes before n at all z e so_far =
    sym so_far ∙ ap (λ k. with_front found (pairs_at bytes k at before)) z ∙ at_end found bytes before at false (other_place at (length bytes) e)

-- Names that rise

-- each of the names is below one that is above the last of them
below_more : (x p n : List ℕ) (ns : List (List ℕ)) → AllByRecursion (λ y. slice_cmp nat_cmp x y ≡ Less) (ns ++ p ∷ []) → slice_cmp nat_cmp p n ≡ Less
    → AllByRecursion (λ y. slice_cmp nat_cmp x y ≡ Less) ((ns ++ p ∷ []) ++ n ∷ [])
below_more x p n [] h above = (h.0, (nat_list_cmp_total.trans x p n h.0 above, tt))
below_more x p n (y ∷ ys) h above = (h.0, below_more x p n ys h.1 above)

pub rise_more : (ns : List (List ℕ)) (p n : List ℕ) → Rise (ns ++ p ∷ []) → slice_cmp nat_cmp p n ≡ Less → Rise ((ns ++ p ∷ []) ++ n ∷ [])
unfolding IsStrictlySortedBy
rise_more [] p n h above = ((above, tt), (tt, tt))
rise_more (y ∷ ys) p n h above = (below_more y p n ys h.0 above, rise_more ys p n h.1 above)

-- one more name may follow, and the names so far rise
pub names_more : (found more : Event) (p : List ℕ × Value) (n : List ℕ) → more ≡ found ++ p ∷ [] → Rise (names found ++ p.0 ∷ []) → slice_cmp nat_cmp p.0 n ≡ Less → Rise (names more ++ n ∷ [])
names_more found more p n e h above = rw e (rw (map-append (λ (q : List ℕ × Value). q.0) found (p ∷ [])) (rise_more (names found) p.0 n h above))

pub names_rise : (found more : Event) (p : List ℕ × Value) → more ≡ found ++ p ∷ [] → Rise (names found ++ p.0 ∷ []) → Rise (names more)
names_rise found more p e h = rw e (rw (map-append (λ (q : List ℕ × Value). q.0) found (p ∷ [])) h)

size_append : (found : Event) (p : List ℕ × Value) → pairs_size (found ++ p ∷ []) ≡ pairs_size found + (2 + length p.0 + value_size p.1)
size_append [] p = omega arith
size_append (q ∷ qs) p = omega (arith, size_append qs p)

-- the sizes of pairs add up
pub size_more : (found more : Event) (p : List ℕ × Value) → more ≡ found ++ p ∷ [] → pairs_size more ≡ pairs_size found + (2 + length p.0 + value_size p.1)
size_more found more p e = rw e (size_append found p)
