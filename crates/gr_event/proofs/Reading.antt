-- Reading an object member by member gives what reading it as a whole gives, and its names rise
use Rattle.std.proofs.Common.{◌≡◌, ◌≤◌, suc, List, [], ◌∷◌, ◌++◌, ℕ, Bool, true, false, nat_lt, length, map, if◌then◌else◌, Some, None, Result, Ok, Err, refl, ap, ◌∙◌, sym, subst, append_assoc, append-nil, String, Global, string_bytes, string_cmp, nat_cmp, Less, BTreeMap, arith}
use Rattle.std.specs.Str.{is_utf8}
use Rattle.std.specs.Prelude.{IsUtf8}
use Rattle.std.specs.List.{AllByRecursion}
use Rattle.std.specs.List.Sorted.{IsStrictlySortedBy}
use Rattle.std.specs.BTreeMap.{IsOrdered}
use Rattle.std.specs.Cmp.Lexicographic.{slice_cmp}
use Rattle.std.proofs.lemmas.Str.{is_utf8-from_IsUtf8, IsUtf8-from_is_utf8}
use Rattle.std.proofs.lemmas.List.{map-append}
use Rattle.serde_json.specs.Data.{Data, object, Members, no_members, member}
use Rattle.serde_json.specs.Events.{members_len}
use Rattle.serde_json.specs.Read.{read}
use Rattle.serde_json.specs.View.{view, members_view}
use Rattle.serde_json.specs.declared.value.Value.{Value as Json}
use Rattle.serde_json.proofs.Views.{members_len-members_view}
use Rattle.gr_event.specs.declared.value.Value.{Value}
use Rattle.gr_event.specs.declared.event.Event.{Event}
use Rattle.gr_event.specs.declared.event.EventFault.{EventFault}
use Rattle.gr_event.specs.declared.event.EventFault.TheVariants as fault
use Rattle.gr_event.specs.Gives.{◌>>=◌, Fails, Gives}
use Rattle.gr_event.specs.Limits.{names, key_texts, Rise, IsPair, ArePairs}
use Rattle.gr_event.specs.Json.{pair_from, pairs_from, short_event, event_from, event_of_read, event_text}

-- what was read, behind a front
abbrev pub with_front : Event → Result Event EventFault → Result Event EventFault
with_front front read = read >>= λ rest. Ok (front ++ rest)

-- one more pair in front of the rest
pub after : (front : Event) (p : List ℕ × Value) (r : Result Event EventFault)
    → with_front front (r >>= λ rest. Ok (p ∷ rest)) ≡ with_front (front ++ p ∷ []) r
after front p (Ok rest) = ap (λ l. Ok l) (sym (append_assoc front (p ∷ []) rest))
after front p (Err e) = refl

one_more : (front : Event) (k : List ℕ) (d : Data) (ms : Members) (p : List ℕ × Value) → pair_from k d ≡ Ok p
    → with_front front (pairs_from (member k d ms)) ≡ with_front (front ++ p ∷ []) (pairs_from ms)
unfolding pairs_from
one_more front k d ms p e = rw e (after front p (pairs_from ms))

one_refused : (front : Event) (k : List ℕ) (d : Data) (ms : Members) (f : EventFault) → pair_from k d ≡ Err f
    → with_front front (pairs_from (member k d ms)) ≡ Err f
unfolding pairs_from
one_refused front k d ms f e = rw e refl

-- nothing is left to read
no_more : (front : Event) → with_front front (pairs_from no_members) ≡ Ok front
unfolding pairs_from
no_more front = ap (λ l. Ok l) (append-nil front)

-- nothing was read yet
pub no_front : (r : Result Event EventFault) → with_front [] r ≡ r
no_front (Ok x) = refl
no_front (Err e) = refl

abbrev Entries : Type 0
Entries = List (String Global × Json)

-- the first of the entries that are left was read
pub front_one_more : (found : Event) (es rest : Entries) (k : String Global) (w : Json) (p : List ℕ × Value) (all : Result Event EventFault)
    → es ≡ (k, w) ∷ rest → pair_from (string_bytes k) (view w) ≡ Ok p
    → with_front found (pairs_from (members_view es)) ≡ all
    → with_front (found ++ p ∷ []) (pairs_from (members_view rest)) ≡ all
front_one_more found es rest k w p all here read so_far =
    sym (one_more found (string_bytes k) (view w) (members_view rest) p read)
    ∙ ap (λ l. with_front found (pairs_from (members_view l))) (sym here) ∙ so_far

-- the first fault is the fault of all
pub first_refused : (found : Event) (es rest : Entries) (k : String Global) (w : Json) (e : EventFault) (all : Result Event EventFault)
    → es ≡ (k, w) ∷ rest → with_front found (pairs_from (members_view es)) ≡ all
    → Fails e (pair_from (string_bytes k) (view w)) → Fails e all
first_refused found es rest k w fault.Memory all here so_far read = tt
first_refused found es rest k w e all here so_far read =
    sym so_far ∙ ap (λ l. with_front found (pairs_from (members_view l))) here ∙ one_refused found (string_bytes k) (view w) (members_view rest) e read

-- the names so far and the keys that are left are all keys
pub names_one_more : (found : Event) (es rest : Entries) (k : String Global) (w : Json) (p : List ℕ × Value) (all : List (List ℕ))
    → es ≡ (k, w) ∷ rest → p.0 ≡ string_bytes k → names found ++ key_texts es ≡ all → names (found ++ p ∷ []) ++ key_texts rest ≡ all
names_one_more found es rest k w p all here name so_far =
    ap (λ l. l ++ key_texts rest) (map-append (λ (q : List ℕ × Value). q.0) found (p ∷ []))
    ∙ append_assoc (names found) (p.0 ∷ []) (key_texts rest)
    ∙ ap (λ n. names found ++ n ∷ key_texts rest) name
    ∙ ap (λ l. names found ++ key_texts l) (sym here) ∙ so_far

-- no entry is left
pub all_read : (found : Event) (es : Entries) (all : Result Event EventFault) → es ≡ [] → with_front found (pairs_from (members_view es)) ≡ all → all ≡ Ok found
all_read found es all here so_far = sym so_far ∙ ap (λ l. with_front found (pairs_from (members_view l))) here ∙ no_more found

pub all_named : (found : Event) (es : Entries) (all : List (List ℕ)) → es ≡ [] → names found ++ key_texts es ≡ all → names found ≡ all
all_named found es all here so_far = sym (append-nil (names found)) ∙ ap (λ l. names found ++ key_texts l) (sym here) ∙ so_far

-- one more pair keeps to the limits
pub each_one_more : (found : Event) (p : List ℕ × Value) → AllByRecursion IsPair found → IsPair p → AllByRecursion IsPair (found ++ p ∷ [])
each_one_more [] p h i = (i, tt)
each_one_more (q ∷ qs) p h i = (h.0, each_one_more qs p h.1 i)

-- The names of a map's entries rise

texts_above : (k : String Global) (es : Entries) → AllByRecursion (λ y. string_cmp k y ≡ Less) (map (λ m. m.0) es)
    → AllByRecursion (λ y. slice_cmp nat_cmp (string_bytes k) y ≡ Less) (key_texts es)
texts_above k [] h = tt
texts_above k (e ∷ es) h = (h.0, texts_above k es h.1)

texts_rise : (es : Entries) → IsStrictlySortedBy string_cmp (map (λ m. m.0) es) → Rise (key_texts es)
unfolding IsStrictlySortedBy
texts_rise [] h = tt
texts_rise (e ∷ es) h = (texts_above e.0 es h.0, texts_rise es h.1)

length_names : (e : Event) → length (names e) ≡ length e
length_names [] = refl
length_names (p ∷ ps) = ap suc (length_names ps)

length_texts : (es : Entries) → length (key_texts es) ≡ length es
length_texts [] = refl
length_texts (e ∷ es) = ap suc (length_texts es)

-- what was read of a map of at most 32 entries are pairs of an event
pub are_pairs : (m : BTreeMap (String Global) Json) (e : Event) → IsOrdered string_cmp m → length m.entries ≤ 32
    → names e ≡ key_texts m.entries → AllByRecursion IsPair e → ArePairs e
are_pairs m e sorted few same each = record {
  rise = subst Rise (sym same) (texts_rise m.entries sorted);
  few = omega (arith, length_names e, length_texts m.entries, ap length same);
  each = each;
}

-- An object as a whole

event_from_members : (d : Data) (ms : Members) → d ≡ object ms → event_from d ≡ (if nat_lt 32 (members_len ms) then Err fault.TooMany else (pairs_from ms >>= short_event))
unfolding event_from
event_from_members d ms e = rw e refl

pub too_many : (d : Data) (es : Entries) (n : ℕ) → d ≡ object (members_view es) → n ≡ length es → nat_lt 32 n ≡ true → event_from d ≡ Err fault.TooMany
too_many d es n e len more =
    event_from_members d (members_view es) e
    ∙ ap (λ b. if b then Err fault.TooMany else (pairs_from (members_view es) >>= short_event)) (ap (nat_lt 32) (members_len-members_view es ∙ sym len) ∙ more)

pub few : (d : Data) (es : Entries) (n : ℕ) → d ≡ object (members_view es) → n ≡ length es → nat_lt 32 n ≡ false → event_from d ≡ (pairs_from (members_view es) >>= short_event)
few d es n e len less =
    event_from_members d (members_view es) e
    ∙ ap (λ b. if b then Err fault.TooMany else (pairs_from (members_view es) >>= short_event)) (ap (nat_lt 32) (members_len-members_view es ∙ sym len) ∙ less)

-- the pairs were read
pub gives_short : (r : Result Event EventFault) (e : Event) (all : Result Event EventFault) → all ≡ Ok e → Gives r (short_event e) → Gives r (all >>= short_event)
gives_short r e all is g = rw is g

-- the pairs were refused
pub fails_first : (f : EventFault) (all : Result Event EventFault) → Fails f all → Fails f (all >>= short_event)
fails_first fault.Memory all h = tt
fails_first f all h = rw h refl

-- Bytes

pub read_as : (bytes : List ℕ) (d : Data) → IsUtf8 bytes → read bytes ≡ Some d → event_from d ≡ event_text bytes
unfolding event_text
read_as bytes d u e = rw (is_utf8-from_IsUtf8 bytes u, e) refl

not_read : (b : Bool) (bytes : List ℕ) → is_utf8 bytes ≡ b → (IsUtf8 bytes → read bytes ≡ None) → event_of_read (if b then read bytes else None) ≡ Err fault.NotJson
not_read true bytes e h = ap event_of_read (h (IsUtf8-from_is_utf8 bytes e))
not_read false bytes e h = refl

pub unread : (bytes : List ℕ) → (IsUtf8 bytes → read bytes ≡ None) → event_text bytes ≡ Err fault.NotJson
unfolding event_text
unread bytes h = not_read (is_utf8 bytes) bytes refl h
