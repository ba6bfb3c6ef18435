-- A filter that is not asked does not match
use Rattle.std.proofs.Common.{◌≡◌, ℕ, ◌+◌, ◌<◌, Bool, true, false, cond, List, [], ◌∷◌, ◌++◌, length, Option, Some, None, refl, sym, ap, ◌∙◌, subst, arith, nat_eq, inl, inr, Less}
use Rattle.std.specs.Prelude.{option_and_then, bytes_eq}
use Rattle.std.specs.Option.{option_or}
use Rattle.std.specs.List.{AllByRecursion, flat_map, list_any, slice_get}
use Rattle.std.specs.List.Sorted.{IsStrictlySortedBy}
use Rattle.std.specs.Ordering.{nat_cmp, is_eq}
use Rattle.std.specs.Cmp.Lexicographic.{slice_cmp}
use Rattle.std.proofs.lemmas.Map.Text.{is_eq-slice_cmp}
use Rattle.std.proofs.lemmas.Bool.{false≢true, cases_Bool, eqb-true, lt-ltb, and_from, and_parts}
use Rattle.gr_event.specs.declared.value.Value.{Value}
use Rattle.gr_event.specs.declared.value.Value.TheVariants.{Int, Text, Bool as Truth}
use Rattle.gr_event.specs.declared.event.Event.{Event}
use Rattle.gr_filter.specs.declared.node.Operand.{Operand}
use Rattle.gr_filter.specs.declared.node.Operand.TheVariants.{Name as OName, Int as OInt, Text as OText, Bool as OBool}
use Rattle.gr_filter.specs.declared.node.Sign.{Sign}
use Rattle.gr_filter.specs.declared.node.Sign.TheVariants.{Equal}
use Rattle.gr_filter.specs.declared.kleene.Kleene.{Kleene}
use Rattle.gr_filter.specs.declared.kleene.Kleene.TheVariants.{False, Unknown, True}
use Rattle.gr_filter.specs.Tree.{Tree, compare, both}
use Rattle.gr_filter.specs.Kleene.{least}
use Rattle.gr_filter.specs.Truth.{compare_both, truth, is_true, matches as is_matched}
use Rattle.gr_event.specs.Get.{value_of}
use Rattle.gr_event.specs.Event.{same_value}
use Rattle.gr_event.specs.Limits.{names, Rise, IsEvent}
use Rattle.gr_event.proofs.SameEvent.{event_equal, event_itself}
use Rattle.gr_match.specs.Needed.{Pair, equation, needed, is_value, has, is_pair}
use Rattle.gr_match.specs.declared.bucket.Bucket.{Bucket}
use Rattle.gr_match.specs.Index.{is_match, matches_at, bucket_pair, needed_at, NeedsAt, EachNeeds, IsIndex, row_of, row_at, places_for, places_of, asked, all_places, times}
use Rattle.gr_match.proofs.Times.{times-append}

least_left : (a b : Kleene) → is_true a ≡ false → is_true (least a b) ≡ false
least_left False b h = refl
least_left Unknown False h = refl
least_left Unknown Unknown h = refl
least_left Unknown True h = refl
least_left True b h = absurd (false≢true (sym h))

least_right : (a b : Kleene) → is_true b ≡ false → is_true (least a b) ≡ false
least_right False b h = refl
least_right Unknown False h = refl
least_right Unknown Unknown h = refl
least_right Unknown True h = refl
least_right True b h = h

known_false : (b : Bool) → b ≡ false → is_true (elim b [ true ↦ True | false ↦ False ]) ≡ false
known_false true h = absurd (false≢true (sym h))
known_false false h = refl

unequal : (o : Option Value) (v : Value) → is_value v o ≡ false → is_true (compare_both Equal o (Some v)) ≡ false
unequal None v h = refl
unequal (Some (Int a)) (Int b) h = known_false _ h
unequal (Some (Text a)) (Text b) h = known_false _ h
unequal (Some (Truth a)) (Truth b) h = known_false _ h
unequal (Some (Int a)) (Text b) h = refl
unequal (Some (Int a)) (Truth b) h = refl
unequal (Some (Text a)) (Int b) h = refl
unequal (Some (Text a)) (Truth b) h = refl
unequal (Some (Truth a)) (Int b) h = refl
unequal (Some (Truth a)) (Text b) h = refl

some_none : {A : Type 0} (x : A) → Some x ≡ None → ⊥
some_none x h = cc

some_same : {A : Type 0} (x y : A) → Some x ≡ Some y → x ≡ y
some_same x y h = cc

unmet : (x : Operand) (sign : Sign) (y : Operand) (p : Pair) (e : Event) → equation x sign y ≡ Some p → has p e ≡ false → is_matched (compare x sign y) e ≡ false
unmet (OName n) Equal (OInt z) p e q h = unequal (value_of n e) (Int z) (ap (λ r. has r e) (some_same _ p q) ∙ h)
unmet (OName n) Equal (OText t) p e q h = unequal (value_of n e) (Text t) (ap (λ r. has r e) (some_same _ p q) ∙ h)
unmet (OName n) Equal (OBool b) p e q h = unequal (value_of n e) (Truth b) (ap (λ r. has r e) (some_same _ p q) ∙ h)
unmet x sign y p e q h = cc

both_unmatched : (a b : Tree) (p : Pair) (e : Event) (o : Option Pair) → needed a ≡ o → option_or o (needed b) ≡ Some p → (needed a ≡ Some p → is_matched a e ≡ false) → (needed b ≡ Some p → is_matched b e ≡ false) → is_matched (both a b) e ≡ false
both_unmatched a b p e None n q h k = least_right (truth a e) (truth b e) (k q)
both_unmatched a b p e (Some r) n q h k = least_left (truth a e) (truth b e) (h (n ∙ q))

-- a filter does not match an event without the pair
pub unmatched : (f : Tree) (p : Pair) (e : Event) → needed f ≡ Some p → has p e ≡ false → is_matched f e ≡ false
unmatched (compare x sign y) p e q h = unmet x sign y p e q h
unmatched (both a b) p e q h = both_unmatched a b p e (needed a) refl q (λ r. unmatched a p e r h) (λ r. unmatched b p e r h)
unmatched f p e q h = cc

unmatched_at : (fs : List Tree) (p : Pair) (e : Event) (o : Option Tree) → option_and_then needed o ≡ Some p → has p e ≡ false → is_match e o ≡ false
unmatched_at fs p e None q h = refl
unmatched_at fs p e (Some f) q h = unmatched f p e q h

-- the event of a filter that matches has the pair that the filter needs
has_needed : (fs : List Tree) (e : Event) (n : ℕ) (p : Pair) (h : Bool) → has p e ≡ h → needed_at fs n ≡ Some p → matches_at fs e n ≡ true → has p e ≡ true
has_needed fs e n p true h q m = h
has_needed fs e n p false h q m = absurd (false≢true (sym (unmatched_at fs p e (slice_get fs n) q h) ∙ m))

-- ---- where a place stands

-- a place without what holds of all places of a list is none of them
none_of : (P : ℕ → Type 0) (n : ℕ) (xs : List ℕ) → AllByRecursion P xs → (P n → ⊥) → times n xs ≡ 0
none_of P n [] h k = refl
none_of P n (x ∷ xs) h k =
    elim (cases_Bool (nat_eq x n)) [
      | inl e ↦ absurd (k (subst P (eqb-true x n e) h.0))
      | inr d ↦ rw d (omega (arith, none_of P n xs h.1 k))
    ]

pair_same : (p q : Pair) → is_pair p q ≡ true → p ≡ q
pair_same p q h = head_same (event_equal (p ∷ []) (q ∷ []) (and_from (is_pair p q) true h refl))
  where
    head_same : p ∷ [] ≡ q ∷ [] → p ≡ q
    head_same h = cc

pair_is : (p : Pair) → is_pair p p ≡ true
pair_is p = (and_parts (is_pair p p) true (event_itself (p ∷ []))).0

-- a place whose filter does not need the pair is none of those of the pair
places_none : (fs : List Tree) (n : ℕ) (q : Pair) (bs : List Bucket) → EachNeeds fs bs → (needed_at fs n ≡ Some q → ⊥) → times n (flat_map (places_for q) bs) ≡ 0
places_none fs n q [] h k = refl
places_none fs n q (b ∷ bs) h k =
    omega (arith, times-append n (places_for q b) (flat_map (places_for q) bs), first (is_pair q (bucket_pair b)) refl, places_none fs n q bs h.1 k)
  where
    first : (x : Bool) → is_pair q (bucket_pair b) ≡ x → times n (cond x b.places []) ≡ 0
    first true e = none_of (NeedsAt fs (bucket_pair b)) n b.places h.0 (λ z. k (z ∙ ap (λ r. Some r) (sym (pair_same q (bucket_pair b) e))))
    first false e = refl

-- a place whose filter needs the pair stands as often among those of the pair as in the row
places_all : (fs : List Tree) (n : ℕ) (p : Pair) (bs : List Bucket) → EachNeeds fs bs → needed_at fs n ≡ Some p → times n (flat_map (places_for p) bs) ≡ times n (all_places bs)
places_all fs n p [] h k = refl
places_all fs n p (b ∷ bs) h k =
    omega (arith, times-append n (places_for p b) (flat_map (places_for p) bs), times-append n b.places (all_places bs), first (is_pair p (bucket_pair b)) refl, places_all fs n p bs h.1 k)
  where
    first : (x : Bool) → is_pair p (bucket_pair b) ≡ x → times n (cond x b.places []) ≡ times n b.places
    first true e = refl
    first false e = sym (none_of (NeedsAt fs (bucket_pair b)) n b.places h.0 (λ z. false≢true (sym e ∙ ap (is_pair p) (some_same _ _ (sym z ∙ k)) ∙ pair_is p)))

-- ---- the pairs of an event

asked_none : (fs : List Tree) (row : ℕ → List Bucket) (n : ℕ) (e : Event) → ((i : ℕ) → EachNeeds fs (row i)) → AllByRecursion (λ q. needed_at fs n ≡ Some q → ⊥) e → times n (asked row e) ≡ 0
asked_none fs row n [] h k = refl
asked_none fs row n (q ∷ qs) h k =
    omega (arith, times-append n (places_of row q) (asked row qs), places_none fs n q (row (row_of q)) (h (row_of q)) k.0, asked_none fs row n qs h k.1)

-- a name that is below others is none of them
other_name : (a b : List ℕ) → slice_cmp nat_cmp a b ≡ Less → bytes_eq a b ≡ false
other_name a b h = sym (is_eq-slice_cmp a b) ∙ ap is_eq h

differ : (fs : List Tree) (n : ℕ) (p q : Pair) → needed_at fs n ≡ Some p → bytes_eq q.0 p.0 ≡ false → needed_at fs n ≡ Some q → ⊥
differ fs n p q k d z =
    let same : q ≡ p = some_same _ _ (sym z ∙ k) in
    false≢true (sym d ∙ ap (λ r. bytes_eq r.0 p.0) same ∙ (and_parts (bytes_eq p.0 p.0) (same_value p.1 p.1) (pair_is p)).0)

all_differ : (fs : List Tree) (n : ℕ) (p : Pair) (qs : Event) → needed_at fs n ≡ Some p → AllByRecursion (λ y. slice_cmp nat_cmp p.0 y ≡ Less) (names qs) → AllByRecursion (λ q. needed_at fs n ≡ Some q → ⊥) qs
all_differ fs n p [] k h = tt
all_differ fs n p (q ∷ qs) k h = (λ z. differ fs n q p z (other_name p.0 q.0 h.0) k, all_differ fs n p qs k h.1)

-- a place whose filter needs a pair of the event is asked as often as it stands in the pair's row
asked_pair : (fs : List Tree) (row : ℕ → List Bucket) (n : ℕ) (p : Pair) (e : Event) → ((i : ℕ) → EachNeeds fs (row i)) → needed_at fs n ≡ Some p → Rise (names e) → has p e ≡ true → times n (asked row e) ≡ times n (all_places (row (row_of p)))
unfolding IsStrictlySortedBy
asked_pair fs row n p [] h k r m = absurd (false≢true m)
asked_pair fs row n p (q ∷ qs) h k r m = first (bytes_eq q.0 p.0) refl m (asked_pair fs row n p qs h k r.1)
  where
    first : (x : Bool) → bytes_eq q.0 p.0 ≡ x → is_value p.1 (cond x (Some q.1) (value_of p.0 qs)) ≡ true → (has p qs ≡ true → times n (asked row qs) ≡ times n (all_places (row (row_of p)))) → times n (asked row (q ∷ qs)) ≡ times n (all_places (row (row_of p)))
    first true e v later =
        let is : q ≡ p = pair_same q p (and_from (bytes_eq q.0 p.0) (same_value q.1 p.1) e v) in
        let here : times n (places_of row q) ≡ times n (all_places (row (row_of p))) = ap (λ z. times n (places_of row z)) is ∙ places_all fs n p (row (row_of p)) (h (row_of p)) k in
        let rest : times n (asked row qs) ≡ 0 = asked_none fs row n qs h (all_differ fs n q qs (k ∙ ap (λ z. Some z) (sym is)) r.0) in
        omega (arith, times-append n (places_of row q) (asked row qs), here, rest)
    first false e v later =
        omega (arith, times-append n (places_of row q) (asked row qs), places_none fs n q (row (row_of q)) (h (row_of q)) (differ fs n p q k e), later v)

asked_by : (fs : List Tree) (rest : List ℕ) (row : ℕ → List Bucket) (e : Event) (n : ℕ) (o : Option Pair) → IsIndex fs rest row → Rise (names e) → needed_at fs n ≡ o → n < length fs → matches_at fs e n ≡ true → times n rest + times n (asked row e) ≡ 1
asked_by fs rest row e n None h r q l m =
    let none : times n (asked row e) ≡ 0 = asked_none fs row n e h.needs (no_pair e) in
    let once : times n rest ≡ 1 = h.in_rest n q ∙ ap {B = ℕ} (λ b. cond b 1 0) (lt-ltb n (length fs) l) in
    omega (arith, none, once)
  where
    no_pair : (ps : Event) → AllByRecursion (λ p. needed_at fs n ≡ Some p → ⊥) ps
    no_pair [] = tt
    no_pair (p ∷ ps) = (λ z. some_none p (sym z ∙ q), no_pair ps)
asked_by fs rest row e n (Some p) h r q l m =
    let none : times n rest ≡ 0 = h.not_in_rest n p q in
    let once : times n (asked row e) ≡ 1 = asked_pair fs row n p e h.needs q r (has_needed fs e n p (has p e) refl q m) ∙ h.in_row n p q in
    omega (arith, none, once)

-- each filter that matches is asked once
pub once_asked : (fs : List Tree) (rest : List ℕ) (row : ℕ → List Bucket) (e : Event) (n : ℕ) → IsIndex fs rest row → IsEvent e → n < length fs → matches_at fs e n ≡ true → times n (rest ++ asked row e) ≡ 1
once_asked fs rest row e n h i l m = times-append n rest (asked row e) ∙ asked_by fs rest row e n (needed_at fs n) h i.pairs.rise refl l m

-- without rows nothing is asked
pub no_rows : (test : ℕ → Bool) (rows : List (List Bucket)) (e : Event) → length rows ≡ 0 → false ≡ list_any test (asked (row_at rows) e)
no_rows test [] [] h = refl
no_rows test [] (p ∷ ps) h = no_rows test [] ps h
no_rows test (r ∷ rs) e h = absurd (omega (arith, h))
