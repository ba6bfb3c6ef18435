-- With at most five names that an event can have, and values that it can have, all candidates are events
use Rattle.std.proofs.Common.{◌≡◌, ℕ, zero, suc, ◌+◌, ◌*◌, ◌<◌, ◌≤◌, ℤ, pos, ◌+ℤ◌, ◌-ℤ◌, ◌<ℤ◌, Bool, true, false, ◌&&◌, ◌||◌, ◌==◌, List, [], ◌∷◌, ◌++◌, length, map, get_or, Option, Some, None, refl, sym, ap, ◌∙◌, subst, inl, inr, arith, cond, append_assoc, append-nil, length-append, FitsSigned, IsUtf8, Less, lit<}
use Rattle.std.specs.Prelude.{int_lt, nat_le, bytes_eq}
use Rattle.std.specs.Int.{w64}
use Rattle.std.specs.List.{flat_map, AllByRecursion, list_any}
use Rattle.std.specs.List.Sorted.{IsStrictlySortedBy}
use Rattle.std.specs.Ordering.{nat_cmp}
use Rattle.std.specs.Cmp.Lexicographic.{slice_cmp}
use Rattle.std.proofs.lemmas.Bool.{false≢true, leb-true, or_cases, and_parts, eqb-true}
use Rattle.std.proofs.lemmas.Cmp.{nat_list_cmp_total}
use Rattle.std.proofs.lemmas.Int.{ints}
use Rattle.std.proofs.lemmas.List.{map-append}
use Rattle.std.proofs.lemmas.Str.{IsUtf8-from_is_utf8, IsUtf8-from_ascii, IsUtf8-append}
use Rattle.gr_event.specs.declared.event.Event.{Event}
use Rattle.gr_event.specs.declared.value.Value.{Value}
use Rattle.gr_event.specs.declared.value.Value.TheVariants.{Int, Text, Bool as Truth}
use Rattle.gr_event.specs.Event.{pairs_size, value_size, same_value}
use Rattle.gr_event.specs.Limits.{names, Rise, IsName, IsValue, IsPair, IsEvent}
use Rattle.gr_filter.specs.declared.node.Operand.{Operand}
use Rattle.gr_filter.specs.declared.node.Operand.TheVariants.{Name as OName, Int as OInt, Text as OText, Bool as OBool}
use Rattle.gr_filter.specs.Token.{goes_on, begins_name, is_digit, front}
use Rattle.gr_filter.specs.Tree.{Tree, alone, compare, between, one_of, like, is_null, negation, both, either}
use Rattle.gr_filter.specs.Written as written
use Rattle.gr_cover.specs.declared.mention.Mention.{Mention}
use Rattle.gr_cover.specs.declared.attribute.Attribute.{Attribute}
use Rattle.gr_cover.specs.Mentions.{literal_value, met, literals_met, compared, mentions}
use Rattle.gr_cover.specs.Candidates.{value_cmp, inserted, least_integer, greatest_integer, near, values_near, values_at, known, is_integer, with_zero, spare_from, spare, with_text, attribute, is_short, short_names, names_of, attributes, choices, parts, events_from, candidates}
use Rattle.gr_cover.proofs.Rising.{all_put, all_with, rise_with, rise_none}
use Rattle.gr_cover.proofs.Searching.{events_with}
use Rattle.gr_cover.proofs.Telling.{some_is, spare_is, four_values}
use Rattle.gr_cover.proofs.Counting.{five_choices, at_most_five, all_have_spare}

-- what holds of all of two lists holds of all of both
pub all_both : {X : Type 0} (P : X → Type 0) (xs ys : List X) → AllByRecursion P xs → AllByRecursion P ys → AllByRecursion P (xs ++ ys)
all_both P [] ys h k = k
all_both P (x ∷ xs) ys h k = (h.0, all_both P xs ys h.1 k)

-- Sizes

size_of : (v : Value) → IsValue v → value_size v ≤ 1026
size_of (Int z) is = omega arith
size_of (Text t) is = omega (arith, is.0)
size_of (Truth b) is = omega arith

sizes_of : (ps : Event) → AllByRecursion IsPair ps → pairs_size ps ≤ 1092 * length ps
sizes_of [] is = omega arith
sizes_of (p ∷ ps) is = omega (arith, is.0.0.1, size_of p.1 is.0.1, sizes_of ps is.1)

-- Events from pairs

-- a name and values that an event can have
abbrev pub IsTried : Attribute → Type 0
IsTried a = IsName a.name × AllByRecursion IsValue a.values

abbrev names_in : List Attribute → List (List ℕ)
names_in rest = map (λ (a : Attribute). a.name) rest

-- pairs that can go on by the names, and stay an event
pub record Goes (ps : Event) (rest : List Attribute) : Type 0 where
  pub rise : Rise (names ps ++ names_in rest)
  pub few : length ps + length rest ≤ 5
  pub each : AllByRecursion IsPair ps
  pub later : AllByRecursion IsTried rest

all_but : {X : Type 0} (P : X → Type 0) (xs : List X) (y : X) (ys : List X) → AllByRecursion P (xs ++ y ∷ ys) → AllByRecursion P (xs ++ ys)
all_but P [] y ys h = h.1
all_but P (x ∷ xs) y ys h = (h.0, all_but P xs y ys h.1)

-- a rising list without one of its elements rises
rise_but : (xs : List (List ℕ)) (y : List ℕ) (ys : List (List ℕ)) → Rise (xs ++ y ∷ ys) → Rise (xs ++ ys)
unfolding IsStrictlySortedBy
rise_but [] y ys h = h.1
rise_but (x ∷ xs) y ys h = (all_but (λ z. slice_cmp nat_cmp x z ≡ Less) xs y ys h.0, rise_but xs y ys h.1)

ends : (ps : Event) → Goes ps [] → IsEvent ps
ends ps g = record {
  pairs = record { rise = subst Rise (append-nil (names ps)) g.rise; few = omega (arith, g.few); each = g.each };
  short = omega (arith, g.few, sizes_of ps g.each);
}

skips : (ps : Event) (a : Attribute) (rest : List Attribute) → Goes ps (a ∷ rest) → Goes ps rest
skips ps a rest g = record { rise = rise_but (names ps) a.name (names_in rest) g.rise; few = omega (arith, g.few); each = g.each; later = g.later.1 }

takes : (ps : Event) (a : Attribute) (rest : List Attribute) (v : Value) → IsValue v → Goes ps (a ∷ rest) → Goes (ps ++ (a.name, v) ∷ []) rest
takes ps a rest v is g = record {
  rise = subst Rise (sym (ap (λ ns. ns ++ names_in rest) (map-append (λ (p : List ℕ × Value). p.0) ps ((a.name, v) ∷ [])) ∙ append_assoc (names ps) (a.name ∷ []) (names_in rest))) g.rise;
  few = omega (arith, g.few, length-append ps ((a.name, v) ∷ []));
  each = all_both IsPair ps ((a.name, v) ∷ []) g.each ((g.later.0.0, is), tt);
  later = g.later.1;
}

with_each : (ps : Event) (n : List ℕ) (rest : List Attribute) (vs : List Value) → ((v : Value) → IsValue v → AllByRecursion IsEvent (events_from (ps ++ (n, v) ∷ []) rest)) → AllByRecursion IsValue vs
    → AllByRecursion IsEvent (events_with ps n rest vs)
with_each ps n rest [] h is = tt
with_each ps n rest (v ∷ vs) h is = all_both IsEvent (events_from (ps ++ (n, v) ∷ []) rest) (events_with ps n rest vs) (h v is.0) (with_each ps n rest vs h is.1)

-- all that go on from such pairs are events
pub all_events : (ps : Event) (rest : List Attribute) → Goes ps rest → AllByRecursion IsEvent (events_from ps rest)
all_events ps [] g = (ends ps g, tt)
all_events ps (a ∷ rest) g =
    all_both IsEvent (events_from ps rest) (events_with ps a.name rest a.values) (all_events ps rest (skips ps a rest g))
    (with_each ps a.name rest a.values (λ v is. all_events (ps ++ (a.name, v) ∷ []) rest (takes ps a rest v is g)) g.later.0.1)

-- What stands in a written filter

abbrev pub IsLiteralValue : Option Value → Type 0
IsLiteralValue None = Unit {0}
IsLiteralValue (Some (Int z)) = FitsSigned w64 z
IsLiteralValue (Some (Text t)) = IsUtf8 t
IsLiteralValue (Some (Truth b)) = Unit {0}

abbrev pub IsMention : Mention → Type 0
IsMention m = written.IsName m.name × IsLiteralValue m.literal

literal_written : (x : Operand) → written.IsOperand x → IsLiteralValue (literal_value x)
literal_written (OName n) w = tt
literal_written (OInt z) w = w
literal_written (OText t) w = IsUtf8-from_is_utf8 t w.utf8
literal_written (OBool b) w = tt

met_written : (x : Operand) (l : Option Value) → written.IsOperand x → IsLiteralValue l → AllByRecursion IsMention (met x l)
met_written (OName n) l w h = ((w, h), tt)
met_written (OInt z) l w h = tt
met_written (OText t) l w h = tt
met_written (OBool b) l w h = tt

compared_written : (x y : Operand) → written.IsOperand x → written.IsOperand y → AllByRecursion IsMention (compared x y)
compared_written x y w v = all_both IsMention (met x (literal_value y)) (met y (literal_value x)) (met_written x (literal_value y) w (literal_written y v)) (met_written y (literal_value x) v (literal_written x w))

literals_written : (n : List ℕ) (ls : List Operand) → written.IsName n → AllByRecursion written.IsLiteral ls → AllByRecursion IsMention (literals_met n ls)
literals_written n [] w h = tt
literals_written n (OName m ∷ ls) w h = absurd h.0
literals_written n (OInt z ∷ ls) w h = ((w, h.0), literals_written n ls w h.1)
literals_written n (OText t ∷ ls) w h = ((w, IsUtf8-from_is_utf8 t h.0.utf8), literals_written n ls w h.1)
literals_written n (OBool b ∷ ls) w h = ((w, tt), literals_written n ls w h.1)

-- the names and literals of a filter are names and values
pub mentions_written : (t : Tree) → written.IsWritten t → AllByRecursion IsMention (mentions t)
mentions_written (alone (OName n)) w = ((w, tt), tt)
mentions_written (alone (OInt z)) w = tt
mentions_written (alone (OText t)) w = tt
mentions_written (alone (OBool b)) w = tt
mentions_written (compare x s y) w = compared_written x y w.0 w.1
mentions_written (between negated x low high) w = all_both IsMention (compared x low) (compared x high) (compared_written x low w.0 w.1) (compared_written x high w.0 w.2)
mentions_written (one_of negated n []) w = tt
mentions_written (one_of negated n (l ∷ ls)) w = literals_written n (l ∷ ls) w.0 w.1
mentions_written (like negated n pattern) w = ((w.0, tt), tt)
mentions_written (is_null negated n) w = ((w, tt), tt)
mentions_written (negation a) w = mentions_written a w
mentions_written (both a b) w = all_both IsMention (mentions a) (mentions b) (mentions_written a w.0) (mentions_written b w.1)
mentions_written (either a b) w = all_both IsMention (mentions a) (mentions b) (mentions_written a w.0) (mentions_written b w.1)

-- Names

begins_ascii : (c : ℕ) → begins_name c ≡ true → c < 128
begins_ascii c h =
    elim (or_cases ((nat_le 65 c && nat_le c 90) || (nat_le 97 c && nat_le c 122) || c == 95) (c == 36) h) [
      | inl k ↦ elim (or_cases ((nat_le 65 c && nat_le c 90) || (nat_le 97 c && nat_le c 122)) (c == 95) k) [
        | inl j ↦ elim (or_cases (nat_le 65 c && nat_le c 90) (nat_le 97 c && nat_le c 122) j) [
          | inl a ↦ let e = leb-true c 90 (and_parts (nat_le 65 c) (nat_le c 90) a).1 in omega (arith, e)
          | inr a ↦ let e = leb-true c 122 (and_parts (nat_le 97 c) (nat_le c 122) a).1 in omega (arith, e)
        ]
        | inr e ↦ let q = eqb-true c 95 e in omega (arith, q)
      ]
      | inr e ↦ let q = eqb-true c 36 e in omega (arith, q)
    ]

goes_ascii : (c : ℕ) → goes_on c ≡ true → c < 128
goes_ascii c h =
    elim (or_cases (begins_name c || is_digit c) (c == 46) h) [
      | inl k ↦ elim (or_cases (begins_name c) (is_digit c) k) [
        | inl b ↦ begins_ascii c b
        | inr d ↦ let e = leb-true c 57 (and_parts (nat_le 48 c) (nat_le c 57) d).1 in omega (arith, e)
      ]
      | inr e ↦ let q = eqb-true c 46 e in omega (arith, q)
    ]

-- the bytes of a name are ASCII
ascii_all : (n : List ℕ) → front goes_on n ≡ length n → (i : ℕ) → get_or n i 0 < 128
ascii_all [] h i = lit< tt
ascii_all (c ∷ cs) h i = go (goes_on c) refl h (ascii_all cs) i
  where
    go : (b : Bool) → goes_on c ≡ b → cond b (1 + front goes_on cs) 0 ≡ suc (length cs) → (front goes_on cs ≡ length cs → (j : ℕ) → get_or cs j 0 < 128) → (j : ℕ) → get_or (c ∷ cs) j 0 < 128
    go true e k later zero = goes_ascii c e
    go true e k later (suc j) = later (omega arith) j
    go false e k later j = absurd (omega arith)

some_byte : (n : List ℕ) → written.begins n ≡ true → 0 < length n
some_byte [] h = absurd (false≢true h)
some_byte (c ∷ cs) h = omega arith

event_name : (n : List ℕ) → written.IsName n → is_short n ≡ true → IsName n
event_name n w s = (some_byte n w.begun, leb-true (length n) 64 s, IsUtf8-from_ascii n (ascii_all n w.whole))

short_valid : (ms : List Mention) → AllByRecursion IsMention ms → AllByRecursion IsName (short_names ms)
short_valid [] h = tt
short_valid (m ∷ ms) h = go (is_short m.name) refl (short_valid ms h.1)
  where
    go : (b : Bool) → is_short m.name ≡ b → AllByRecursion IsName (short_names ms) → AllByRecursion IsName (cond b (m.name ∷ short_names ms) (short_names ms))
    go true e k = (event_name m.name h.0.0 e, k)
    go false e k = k

names_valid : (ms : List Mention) → AllByRecursion IsMention ms → AllByRecursion IsName (names_of ms)
names_valid ms h = all_with IsName (slice_cmp nat_cmp) [] (short_names ms) tt (short_valid ms h)

-- Values

fits_lower : (k : ℤ) → FitsSigned w64 k → least_integer <ℤ k → FitsSigned w64 (k -ℤ pos 1)
fits_lower k f h = omega (arith, ints)

fits_upper : (k : ℤ) → FitsSigned w64 k → k <ℤ greatest_integer → FitsSigned w64 (k +ℤ pos 1)
fits_upper k f h = omega (arith, ints)

test_lt : (a b : ℤ) → int_lt a b ≡ true → a <ℤ b
test_lt a b h = grind (arith, ints)

near_valid : (k : ℤ) → FitsSigned w64 k → AllByRecursion IsValue (near k)
near_valid k f =
    all_both IsValue (cond (int_lt least_integer k) (Int (k -ℤ pos 1) ∷ []) []) (Int k ∷ cond (int_lt k greatest_integer) (Int (k +ℤ pos 1) ∷ []) [])
    (lower (int_lt least_integer k) refl) (f, upper (int_lt k greatest_integer) refl)
  where
    lower : (b : Bool) → int_lt least_integer k ≡ b → AllByRecursion IsValue (cond b (Int (k -ℤ pos 1) ∷ []) [])
    lower true e = (fits_lower k f (test_lt least_integer k e), tt)
    lower false e = tt

    upper : (b : Bool) → int_lt k greatest_integer ≡ b → AllByRecursion IsValue (cond b (Int (k +ℤ pos 1) ∷ []) [])
    upper true e = (fits_upper k f (test_lt k greatest_integer e), tt)
    upper false e = tt

values_near_valid : (l : Option Value) → IsLiteralValue l → AllByRecursion IsValue (values_near l)
values_near_valid None h = tt
values_near_valid (Some (Int z)) h = near_valid z h
values_near_valid (Some (Truth b)) h = tt
values_near_valid (Some (Text t)) h = go (nat_le (length t) 1024) refl
  where
    go : (b : Bool) → nat_le (length t) 1024 ≡ b → AllByRecursion IsValue (cond b (Text t ∷ []) [])
    go true e = ((leb-true (length t) 1024 e, h), tt)
    go false e = tt

literals_valid : (n : List ℕ) (ms : List Mention) → AllByRecursion IsMention ms → AllByRecursion IsValue (flat_map (values_at n) ms)
literals_valid n [] h = tt
literals_valid n (m ∷ ms) h = all_both IsValue (values_at n m) (flat_map (values_at n) ms) (go (bytes_eq m.name n)) (literals_valid n ms h.1)
  where
    go : (b : Bool) → AllByRecursion IsValue (cond b (values_near m.literal) [])
    go true = values_near_valid m.literal h.0.1
    go false = tt

known_valid : (ms : List Mention) (n : List ℕ) → AllByRecursion IsMention ms → AllByRecursion IsValue (known ms n)
known_valid ms n h = all_with IsValue value_cmp (Truth false ∷ Truth true ∷ []) (flat_map (values_at n) ms) (tt, (tt, tt)) (literals_valid n ms h)

zero_fits : FitsSigned w64 (pos 0)
zero_fits = omega (arith, ints)

with_zero_valid : (vs : List Value) → AllByRecursion IsValue vs → AllByRecursion IsValue (with_zero vs)
with_zero_valid vs h = go (list_any is_integer vs)
  where
    go : (b : Bool) → AllByRecursion IsValue (cond b vs (inserted value_cmp (Int (pos 0)) vs))
    go true = h
    go false = all_put IsValue value_cmp (Int (pos 0)) vs zero_fits h

letter_ascii : (i : ℕ) → get_or (120 ∷ []) i 0 < 128
letter_ascii zero = lit< tt
letter_ascii (suc i) = lit< tt

letter_text : IsUtf8 (120 ∷ [])
letter_text = IsUtf8-from_ascii (120 ∷ []) letter_ascii

spare_from_text : (k : ℕ) (t u : List ℕ) (vs : List Value) → IsUtf8 t → spare_from k t vs ≡ Some u → IsUtf8 u
unfolding spare_from
spare_from_text zero t u vs h e = absurd (cc)
spare_from_text (suc k) t u vs h e = go (list_any (same_value (Text t)) vs) e (spare_from_text k (t ++ 120 ∷ []) u vs (IsUtf8-append t (120 ∷ []) h letter_text))
  where
    go : (b : Bool) → cond b (spare_from k (t ++ 120 ∷ []) vs) (Some t) ≡ Some u → (spare_from k (t ++ 120 ∷ []) vs ≡ Some u → IsUtf8 u) → IsUtf8 u
    go true g later = later g
    go false g later = subst IsUtf8 (some_is t u g) h

spare_text : (u : List ℕ) (vs : List Value) → spare vs ≡ Some u → IsUtf8 u
unfolding spare
spare_text u vs h = spare_from_text 1024 (120 ∷ []) u vs letter_text h

with_text_valid : (o : Option (List ℕ)) (ws vs : List Value) → spare ws ≡ o → AllByRecursion IsValue vs → AllByRecursion IsValue (with_text o vs)
with_text_valid None ws vs e h = h
with_text_valid (Some u) ws vs e h = all_put IsValue value_cmp (Text u) vs ((spare_is u ws e).short, spare_text u ws e) h

tried : (ms : List Mention) (ns : List (List ℕ)) → AllByRecursion IsMention ms → AllByRecursion IsName ns → AllByRecursion IsTried (map (attribute ms) ns)
tried ms [] h is = tt
tried ms (n ∷ ns) h is =
    ((is.0, with_text_valid (spare (known ms n)) (known ms n) (with_zero (known ms n)) refl (with_zero_valid (known ms n) (known_valid ms n h))), tried ms ns h is.1)

-- The candidates

names_attributes : (ms : List Mention) (ns : List (List ℕ)) → names_in (map (attribute ms) ns) ≡ ns
names_attributes ms [] = refl
names_attributes ms (n ∷ ns) = ap (λ ks. n ∷ ks) (names_attributes ms ns)

-- where there are no more than 4,096 parts, each name has a spare text
spared_of : (ms : List Mention) (ns : List (List ℕ)) → AllByRecursion (λ (a : Attribute). a.has_spare ≡ true) (map (attribute ms) ns) → AllByRecursion (λ n. (attribute ms n).has_spare ≡ true) ns
spared_of ms [] h = tt
spared_of ms (n ∷ ns) h = (h.0, spared_of ms ns h.1)

pub all_spared : (ms : List Mention) → parts (attributes ms) ≤ 4096 → AllByRecursion (λ n. (attribute ms n).has_spare ≡ true) (names_of ms)
all_spared ms few = spared_of ms (names_of ms) (all_have_spare (attributes ms) few)

all_five : (ms : List Mention) (ns : List (List ℕ)) → AllByRecursion (λ a. 5 ≤ choices a) (map (attribute ms) ns)
all_five ms [] = tt
all_five ms (n ∷ ns) = (five_choices (attribute ms n) (four_values ms n), all_five ms ns)

-- where there are no more than 4,096 parts, the candidates are events
pub candidates_valid : (ms : List Mention) → AllByRecursion IsMention ms → parts (attributes ms) ≤ 4096 → AllByRecursion IsEvent (candidates (attributes ms))
candidates_valid ms h few = all_events [] (attributes ms) (record {
  rise = subst Rise (sym (names_attributes ms (names_of ms))) (rise_with (slice_cmp nat_cmp) [] (short_names ms) nat_list_cmp_total (rise_none (slice_cmp nat_cmp)));
  few = let k = at_most_five (attributes ms) (all_five ms (names_of ms)) few in omega (arith, k);
  each = tt;
  later = tried ms (names_of ms) h (names_valid ms h);
})
