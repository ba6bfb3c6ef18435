-- Pairs where they stand in bytes: what the first of them is, and what is behind it
use Rattle.std.proofs.Common.{suc, ◌≡◌, ◌<◌, ◌-◌, ℕ, List, [], ◌∷◌, length, take, drop, get_or, true, false, Option, Some, None, Result, Ok, Err, OnOk, slice_get, ap, ap₂, refl, sym, subst, ◌∙◌, arith}
use Rattle.std.specs.Prelude.{bytes_eq, slice_index_or}
use Rattle.std.specs.Cmp.Lexicographic.{slice_cmp}
use Rattle.std.specs.Ordering.{nat_cmp}
use Rattle.std.proofs.lemmas.Map.Keys.{sorted_tail}
use Rattle.std.proofs.lemmas.List.{take_all}
use Rattle.gr_event.specs.declared.value.Value.{Value}
use Rattle.gr_event.specs.declared.event.Event.{Event}
use Rattle.gr_event.specs.declared.event.EventFault.{EventFault}
use Rattle.gr_event.specs.Event.{event_bytes, pairs_bytes, event_size}
use Rattle.gr_event.specs.Limits.{IsEvent, names}
use Rattle.gr_event.specs.Form.{Spell, AreOfEvent, TellsEvent, event_of, read_or_none}
use Rattle.gr_event.specs.Get.{value_of}
use Rattle.gr_event.specs.Decode.{event_decoded}
use Rattle.gr_event.proofs.Spelled.{decodes_back, length-pairs_bytes}
use Rattle.gr_event.proofs.Told.{only_its_bytes}

-- no bytes are those of no pair alone
pub nothing : (bytes : List ℕ) (ps : Event) → Spell bytes ps → length bytes ≡ 0 → ps ≡ []
nothing bytes [] h none = refl
nothing bytes (p ∷ ps) h none = absurd (let e = ap length h.spelled in omega arith)

-- some bytes are those of some pair
pub something : (bytes : List ℕ) (ps : Event) → Spell bytes ps → 0 < length bytes → (p : List ℕ × Value) × (qs : Event) × Spell bytes (p ∷ qs)
something bytes [] h some = absurd (let e = ap length h.spelled in omega arith)
something bytes (p ∷ ps) h some = (p, ps, h)

pub none_found : (bytes name : List ℕ) (ps : Event) → Spell bytes ps → length bytes ≡ 0 → None ≡ value_of name ps
none_found bytes name ps h none = ap (λ (l : Event). value_of name l) (sym (nothing bytes ps h none))

pub some_front : (i : ℕ) (bytes : List ℕ) (ps : Event) → Spell bytes ps → i < length ps
    → (p : List ℕ × Value) × (qs : Event) × Spell bytes (p ∷ qs) × (i < suc (length qs))
some_front i bytes [] h within = absurd (omega arith)
some_front i bytes (p ∷ ps) h within = (p, ps, h, within)

-- what is known of the first pair: its name, its value and the bytes behind it
abbrev pub FrontOf : List ℕ → List ℕ → Value → List ℕ → Type 0
FrontOf bytes name value others = (p : List ℕ × Value) (ps : Event) → Spell bytes (p ∷ ps) → (name ≡ p.0) × (value ≡ p.1) × Spell others ps

-- the first pair has the name
pub found_here : (bytes name first others : List ℕ) (value : Value) (ps : Event) → Spell bytes ps → 0 < length bytes → FrontOf bytes first value others
    → bytes_eq first name ≡ true → Some value ≡ value_of name ps
found_here bytes name first others value [] h some front is = absurd (let e = ap length h.spelled in omega arith)
found_here bytes name first others value (p ∷ ps) h some front is =
    let f = front p ps h in
    rw (ap (λ l. bytes_eq l name) (sym f.0) ∙ is) (ap (λ v. Some v) f.1)

-- the first pair has another name
pub found_behind : (bytes name first others : List ℕ) (value : Value) (r : Option Value) (ps : Event) → Spell bytes ps → 0 < length bytes
    → FrontOf bytes first value others → bytes_eq first name ≡ false
    → ((qs : Event) → Spell others qs → r ≡ value_of name qs) → r ≡ value_of name ps
found_behind bytes name first others value r [] h some front other rest = absurd (let e = ap length h.spelled in omega arith)
found_behind bytes name first others value r (p ∷ ps) h some front other rest =
    let f = front p ps h in
    rw (ap (λ l. bytes_eq l name) (sym f.0) ∙ other) (rest ps f.2)

-- the pair at a place
pub at_front : (bytes first others : List ℕ) (value : Value) (i : ℕ) (ps : Event) → Spell bytes ps → 0 < length bytes → FrontOf bytes first value others
    → i ≡ 0 → slice_get ps i ≡ Some (first, value)
at_front bytes first others value i [] h some front zeroth = absurd (let e = ap length h.spelled in omega arith)
at_front bytes first others value i (p ∷ ps) h some front zeroth =
    let f = front p ps h in
    rw zeroth (ap₂ (λ (n : List ℕ) (v : Value). Some (n, v)) (sym f.0) (sym f.1))

pub at_behind : (bytes first others : List ℕ) (value : Value) (i j : ℕ) (r : Option (List ℕ × Value)) (ps : Event) → Spell bytes ps → 0 < length bytes
    → FrontOf bytes first value others → i ≡ suc j → ((qs : Event) → Spell others qs → slice_get qs j ≡ r) → slice_get ps i ≡ r
at_behind bytes first others value i j r [] h some front next rest = absurd (let e = ap length h.spelled in omega arith)
at_behind bytes first others value i j r (p ∷ ps) h some front next rest =
    let f = front p ps h in
    rw next (rest ps f.2)

-- the bytes of an event are those of one, and it is that one
pub of_its_bytes : (e : Event) → IsEvent e → event_of (event_bytes e) ≡ e
unfolding event_of
of_its_bytes e is = ap read_or_none (decodes_back e is)

pub are_of_event : (bytes : List ℕ) (e : Event) → IsEvent e → bytes ≡ event_bytes e → AreOfEvent bytes
are_of_event bytes e is h =
    let one : event_of bytes ≡ e = ap event_of h ∙ of_its_bytes e is in
    record { event = subst IsEvent (sym one) is; spelled = h ∙ ap (λ l. event_bytes l) (sym one) }

pub length_of_event : (bytes : List ℕ) (e : Event) → bytes ≡ event_bytes e → length bytes ≡ event_size e
length_of_event bytes e h = omega (arith, ap length h, length-pairs_bytes e)

-- bytes that decode to an event are its bytes
pub are_read : (bytes : List ℕ) (e : Event) → ((i : ℕ) → get_or bytes i 0 < 256) → event_decoded bytes ≡ Ok e → IsEvent e → AreOfEvent bytes
unfolding event_of
are_read bytes e fits h is = are_of_event bytes e is (only_its_bytes bytes e fits h)

-- and the event that they are kept as
pub is_read : (bytes : List ℕ) (e : Event) → event_decoded bytes ≡ Ok e → event_of bytes ≡ e
unfolding event_of
is_read bytes e h = ap read_or_none h

-- so they are those of an event, where what was read tells that there is one
pub form_told : {X : Type 0} (r : Result X EventFault) (bytes : List ℕ) → ((i : ℕ) → get_or bytes i 0 < 256) → TellsEvent r (event_decoded bytes) → OnOk r (AreOfEvent bytes)
form_told (Ok x) bytes fits told = are_read bytes told.0 fits told.1 told.2
form_told (Err e) bytes fits told = tt

-- events are the same where their bytes are
pub same_bytes : (a b : Event) → IsEvent a → IsEvent b → event_bytes a ≡ event_bytes b → a ≡ b
same_bytes a b is it h = sym (of_its_bytes a is) ∙ ap event_of h ∙ of_its_bytes b it

-- the pairs of an event stand behind its count
pub behind_count : (bytes : List ℕ) (e : Event) → IsEvent e → bytes ≡ event_bytes e → Spell (take (length bytes - 1) (drop 1 bytes)) e
behind_count bytes e is h = record { each = is.pairs.each; spelled = ap (λ l. take (length l - 1) (drop 1 l)) h ∙ take_all (suc (length (pairs_bytes e)) - 1) (pairs_bytes e) (omega arith) }

-- a walk over the pairs of an event: the bytes of those that are left, behind their count, are those of an event

pub event_behind : (p : List ℕ × Value) (ps : Event) → IsEvent (p ∷ ps) → IsEvent ps
event_behind p ps is = record {
  pairs = record {
    rise = sorted_tail (slice_cmp nat_cmp) p.0 (names ps) is.pairs.rise;
    few = omega (arith, is.pairs.few);
    each = is.pairs.each.1;
  };
  short = omega (arith, is.short);
}

-- the count of the pairs that are left, and their bytes
left_of_event : (count : ℕ) (rest : List ℕ) (e : Event) → IsEvent e → count ≡ length e → rest ≡ pairs_bytes e → AreOfEvent (count ∷ rest)
left_of_event count rest e is c r = are_of_event (count ∷ rest) e is (ap₂ (λ (n : ℕ) (l : List ℕ). n ∷ l) c r)

left_is : (count : ℕ) (rest : List ℕ) (e : Event) → IsEvent e → count ≡ length e → rest ≡ pairs_bytes e → event_of (count ∷ rest) ≡ e
left_is count rest e is c r = ap event_of (ap₂ (λ (n : ℕ) (l : List ℕ). n ∷ l) c r) ∙ of_its_bytes e is

-- at first all are left
pub all_left : (bytes : List ℕ) (e : Event) → IsEvent e → bytes ≡ event_bytes e → AreOfEvent (slice_index_or bytes 0 0 ∷ take (length bytes - 1) (drop 1 bytes))
all_left bytes e is h = left_of_event (slice_index_or bytes 0 0) _ e is (ap (λ l. slice_index_or l 0 0) h) (behind_count bytes e is h).spelled

pub all_left_is : (bytes : List ℕ) (e : Event) → IsEvent e → bytes ≡ event_bytes e → event_of (slice_index_or bytes 0 0 ∷ take (length bytes - 1) (drop 1 bytes)) ≡ e
all_left_is bytes e is h = left_is (slice_index_or bytes 0 0) _ e is (ap (λ l. slice_index_or l 0 0) h) (behind_count bytes e is h).spelled

-- where some are left there is a first one
pub some_left : (count : ℕ) (rest : List ℕ) (e : Event) → IsEvent e → count ∷ rest ≡ event_bytes e → 0 < count → (p : List ℕ × Value) × (ps : Event) × Spell rest (p ∷ ps)
some_left count rest [] is h some = absurd (let e : count ≡ 0 = ap (λ l. slice_index_or l 0 0) h in omega arith)
some_left count rest (p ∷ ps) is h some = (p, ps, record { each = is.pairs.each; spelled = ap (drop 1) h })

-- and the others are left behind it
pub next_left : (count : ℕ) (rest name others : List ℕ) (value : Value) (e : Event) → IsEvent e → count ∷ rest ≡ event_bytes e → 0 < count → FrontOf rest name value others
    → AreOfEvent ((count - 1) ∷ others) × (e ≡ (name, value) ∷ event_of ((count - 1) ∷ others))
next_left count rest name others value [] is h some front = absurd (let e : count ≡ 0 = ap (λ l. slice_index_or l 0 0) h in omega arith)
next_left count rest name others value (p ∷ ps) is h some front =
    let f = front p ps (record { each = is.pairs.each; spelled = ap (drop 1) h }) in
    let count_is : count ≡ suc (length ps) = ap (λ l. slice_index_or l 0 0) h in
    let less : count - 1 ≡ length ps = omega arith in
    let behind = event_behind p ps is in
    (left_of_event (count - 1) others ps behind less f.2.spelled, ap₂ (λ (q : List ℕ × Value) (qs : Event). q ∷ qs) (ap₂ (λ (n : List ℕ) (v : Value). (n, v)) (sym f.0) (sym f.1)) (sym (left_is (count - 1) others ps behind less f.2.spelled)))
