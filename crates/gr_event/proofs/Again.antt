-- What an event's JSON reads as: the event itself
use Rattle.std.proofs.Common.{suc, ◌≡◌, ◌<◌, ◌≤◌, ◌^◌, ◌==◌, ℕ, ℤ, pos, negsuc, List, [], ◌∷◌, length, true, false, nat_lt, Ok, FitsSigned, ap, refl, sym, ◌∙◌, arith, rules}
use Rattle.std.specs.Prelude.{IsUtf8}
use Rattle.std.proofs.lemmas.Int.{ints}
use Rattle.std.specs.Int.{w64}
use Rattle.std.specs.List.{AllByRecursion}
use Rattle.serde_json.specs.Read.{read}
use Rattle.serde_json.specs.Events.{members_len}
use Rattle.std.specs.Prelude.{Some}
use Rattle.gr_event.specs.declared.value.Value.{Value}
use Rattle.gr_event.specs.declared.value.Value.TheVariants.{Int, Text, Bool as Truth}
use Rattle.gr_event.specs.declared.event.Event.{Event}
use Rattle.gr_event.specs.Event.{event_size}
use Rattle.gr_event.specs.Limits.{IsName, IsValue, IsPair, IsEvent}
use Rattle.gr_event.specs.Json.{data_of, members_of, json_of, value_from, name_from, pairs_from, event_from, event_text}
use Rattle.gr_event.proofs.Reading.{read_as}

below : (n k : ℕ) → n < k → nat_lt n k ≡ true
below n k h = grind (arith, rules)

not_below : (n k : ℕ) → k ≤ n → nat_lt n k ≡ false
not_below n k h = grind (arith, rules)

not_zero : (n : ℕ) → 0 < n → (n == 0) ≡ false
not_zero n h = grind (arith, rules)

integer_again : (z : ℤ) → FitsSigned w64 z → value_from (data_of (Int z)) ≡ Ok (Int z)
integer_again (pos n) h = rw (below n (2 ^ 63) (omega (arith, ints))) refl
integer_again (negsuc n) h = refl

value_again : (v : Value) → IsValue v → value_from (data_of v) ≡ Ok v
value_again (Int z) h = integer_again z h
value_again (Text s) h = rw (not_below 1024 (length s) h.0) refl
value_again (Truth b) h = refl

name_again : (k : List ℕ) → IsName k → name_from k ≡ Ok k
name_again k h = rw (not_zero (length k) h.0, not_below 64 (length k) h.1) refl

pairs_again : (ps : Event) → AllByRecursion IsPair ps → pairs_from (members_of ps) ≡ Ok ps
unfolding pairs_from
pairs_again [] h = refl
pairs_again (p ∷ ps) h = rw (name_again p.0 h.0.0, value_again p.1 h.0.1, pairs_again ps h.1) refl

len_of : (ps : Event) → members_len (members_of ps) ≡ length ps
len_of [] = refl
len_of (p ∷ ps) = ap suc (len_of ps)

-- an event's object is read as the event
event_again : (e : Event) → IsEvent e → event_from (json_of e) ≡ Ok e
unfolding event_from
event_again e h = rw (len_of e, not_below 32 (length e) h.pairs.few, pairs_again e h.pairs.each, not_below 8192 (event_size e) h.short) refl

-- and so is a text that is read as the object
pub text_again : (bytes : List ℕ) (e : Event) → IsEvent e → IsUtf8 bytes → read bytes ≡ Some (json_of e) → event_text bytes ≡ Ok e
text_again bytes e h u reads = sym (read_as bytes (json_of e) u reads) ∙ event_again e h
