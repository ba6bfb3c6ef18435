-- The bytes of an event decode to it, and no other bytes do
use Rattle.std.proofs.Common.{◌≡◌, ◌<◌, ◌≤◌, ◌+◌, ◌-◌, ◌==◌, ℕ, ℤ, List, [], ◌∷◌, ◌++◌, length, take, drop, true, false, Bool, nat_lt, nat_le, if◌then◌else◌, Ok, Less, nat_cmp, FitsSigned, ap, refl, sym, ◌∙◌, arith, rules, append_assoc, append-nil, length-append}
use Rattle.std.specs.Int.{to_be_bytes, from_be_bytes, cast_signed, cast_unsigned, w16, w64}
use Rattle.std.specs.List.{AllByRecursion}
use Rattle.std.specs.List.Sorted.{IsStrictlySortedBy}
use Rattle.std.specs.Cmp.Lexicographic.{slice_cmp}
use Rattle.std.proofs.lemmas.Int.{to_z-of_z}
use Rattle.std.proofs.Math.Facts.{Fits-of_z}
use Rattle.std.proofs.lemmas.Str.{is_utf8-from_IsUtf8}
use Rattle.std.proofs.lemmas.List.{take_at, drop_at, get_or_at}
use Rattle.std.proofs.lemmas.Nat.{from_be_bytes-to_be_bytes_2, from_be_bytes-to_be_bytes_8}
use Rattle.gr_event.specs.declared.value.Value.{Value}
use Rattle.gr_event.specs.declared.value.Value.TheVariants.{Int, Text, Bool as Truth}
use Rattle.gr_event.specs.declared.event.Event.{Event}
use Rattle.gr_event.specs.Event.{event_bytes, pairs_size, pairs_bytes, value_bytes, value_size}
use Rattle.gr_event.specs.Gives.{◌>>=◌}
use Rattle.gr_event.specs.Limits.{IsName, IsValue, IsPair, IsEvent, Rise, names}
use Rattle.gr_event.specs.Decode.{byte_at, field_at, name_of_length, name_at, text_of_length, integer_at, text_value_at, truth_at, value_of_kind, value_at, pairs_at, pairs_of_count, event_decoded}

-- Reading what stands at a place

below : (n k : ℕ) → n < k → nat_lt n k ≡ true
below n k h = grind (arith, rules)

not_below : (n k : ℕ) → k ≤ n → nat_lt n k ≡ false
not_below n k h = grind (arith, rules)

within : (n k : ℕ) → n ≤ k → nat_le n k ≡ true
within n k h = grind (arith, rules)

not_zero : (n : ℕ) → 0 < n → (n == 0) ≡ false
not_zero n h = grind (arith, rules)

same : (a b : ℕ) → a ≡ b → (a == b) ≡ true
same a b h = grind (arith, rules)

byte_here : (front rest bytes : List ℕ) (x at : ℕ) → bytes ≡ front ++ x ∷ rest → at ≡ length front → byte_at bytes at ≡ Ok x
byte_here front rest bytes x at e d =
    let inside : length front < length (front ++ x ∷ rest) = omega (arith, length-append front (x ∷ rest)) in
    rw (e, d, below (length front) (length (front ++ x ∷ rest)) inside) (ap (λ y. Ok y) (get_or_at front x rest 0 (length front) refl))

cut_here : (front f rest : List ℕ) → take (length front + length f - length front) (drop (length front) (front ++ (f ++ rest))) ≡ f
cut_here front f rest =
    let n : length front + length f - length front ≡ length f = omega arith in
    rw (n, drop_at front (f ++ rest) (length front) refl) (take_at f rest (length f) refl)

field_here : (front f rest bytes : List ℕ) (at n : ℕ) → bytes ≡ front ++ (f ++ rest) → at ≡ length front → n ≡ length f → field_at bytes at n ≡ Ok f
field_here front f rest bytes at n e d l =
    let inside : length front + length f ≤ length (front ++ (f ++ rest)) = omega (arith, length-append front (f ++ rest), length-append f rest) in
    rw (e, d, l, within (length front + length f) (length (front ++ (f ++ rest))) inside) (ap (λ y. Ok y) (cut_here front f rest))

name_here : (front name rest bytes before : List ℕ) (at : ℕ) → bytes ≡ front ++ (length name ∷ (name ++ rest)) → at ≡ length front → IsName name
    → slice_cmp nat_cmp before name ≡ Less → name_at bytes at before ≡ Ok name
unfolding name_at name_of_length
name_here front name rest bytes before at e d is above =
    let one = byte_here front (name ++ rest) bytes (length name) at e d in
    let next : at + 1 ≡ length (front ++ length name ∷ []) = omega (arith, length-append front (length name ∷ [])) in
    let field = field_here (front ++ length name ∷ []) name rest bytes (at + 1) (length name) (e ∙ sym (append_assoc front (length name ∷ []) (name ++ rest))) next refl in
    rw (one, not_zero (length name) is.0, not_below 64 (length name) is.1, field, is_utf8-from_IsUtf8 name is.2, above) refl

length-value_bytes : (v : Value) → length (value_bytes v) ≡ 1 + value_size v
length-value_bytes (Int z) = refl
length-value_bytes (Text t) = omega arith
length-value_bytes (Truth true) = refl
length-value_bytes (Truth false) = refl

kind_here : (front rest bytes : List ℕ) (kind at : ℕ) → bytes ≡ front ++ kind ∷ rest → at ≡ length front → value_at bytes at ≡ value_of_kind bytes at kind
unfolding value_at
kind_here front rest bytes kind at e d = rw (byte_here front rest bytes kind at e d) refl

integer_here : (front rest bytes : List ℕ) (z : ℤ) (at : ℕ) → bytes ≡ front ++ (to_be_bytes w64 (cast_unsigned w64 z) ++ rest) → at ≡ length front → FitsSigned w64 z
    → integer_at bytes at ≡ Ok (Int z)
unfolding integer_at
integer_here front rest bytes z at e d fits =
    ap (λ r. r >>= λ f. Ok (Int (cast_signed w64 (from_be_bytes w64 f)))) (field_here front (to_be_bytes w64 (cast_unsigned w64 z)) rest bytes at 8 e d refl)
    ∙ ap (λ k. Ok (Int (cast_signed w64 k))) (from_be_bytes-to_be_bytes_8 (cast_unsigned w64 z) (omega (arith, (Fits-of_z fits).fits)))
    ∙ ap (λ k. Ok (Int k)) (to_z-of_z w64 z fits)

text_here : (front t rest bytes : List ℕ) (at : ℕ) → bytes ≡ front ++ (to_be_bytes w16 (length t) ++ (t ++ rest)) → at ≡ length front → IsValue (Text t)
    → text_value_at bytes at ≡ Ok (Text t)
unfolding text_value_at text_of_length
text_here front t rest bytes at e d is =
    let n = to_be_bytes w16 (length t) in
    let next : at + 2 ≡ length (front ++ n) = omega (arith, length-append front n) in
    let field = field_here (front ++ n) t rest bytes (at + 2) (length t) (e ∙ sym (append_assoc front n (t ++ rest))) next refl in
    ap (λ r. r >>= λ f. text_of_length bytes at (from_be_bytes w16 f)) (field_here front n (t ++ rest) bytes at 2 e d refl)
    ∙ ap (text_of_length bytes at) (from_be_bytes-to_be_bytes_2 (length t) (omega (arith, is.0)))
    ∙ rw (not_below 1024 (length t) is.0, field, is_utf8-from_IsUtf8 t is.1) refl

truth_here : (front rest bytes : List ℕ) (b : Bool) (at : ℕ) → bytes ≡ front ++ ((if b then 1 else 0) ∷ rest) → at ≡ length front → truth_at bytes at ≡ Ok (Truth b)
unfolding truth_at
truth_here front rest bytes true at e d = rw (byte_here front rest bytes 1 at e d) refl
truth_here front rest bytes false at e d = rw (byte_here front rest bytes 0 at e d) refl

value_here : (front rest bytes : List ℕ) (v : Value) (at : ℕ) → bytes ≡ front ++ (value_bytes v ++ rest) → at ≡ length front → IsValue v → value_at bytes at ≡ Ok v
unfolding value_of_kind
value_here front rest bytes (Int z) at e d is =
    let n = to_be_bytes w64 (cast_unsigned w64 z) in
    let next : at + 1 ≡ length (front ++ 1 ∷ []) = omega (arith, length-append front (1 ∷ [])) in
    kind_here front (n ++ rest) bytes 1 at e d ∙ integer_here (front ++ 1 ∷ []) rest bytes z (at + 1) (e ∙ sym (append_assoc front (1 ∷ []) (n ++ rest))) next is
value_here front rest bytes (Text t) at e d is =
    let n = to_be_bytes w16 (length t) in
    let next : at + 1 ≡ length (front ++ 2 ∷ []) = omega (arith, length-append front (2 ∷ [])) in
    let split : bytes ≡ front ++ (2 ∷ (n ++ (t ++ rest))) = e ∙ ap (λ l. front ++ (2 ∷ l)) (append_assoc n t rest) in
    kind_here front (n ++ (t ++ rest)) bytes 2 at split d ∙ text_here (front ++ 2 ∷ []) t rest bytes (at + 1) (split ∙ sym (append_assoc front (2 ∷ []) (n ++ (t ++ rest)))) next is
value_here front rest bytes (Truth b) at e d is =
    let k = (if b then 1 else 0) ∷ [] in
    let next : at + 1 ≡ length (front ++ 3 ∷ []) = omega (arith, length-append front (3 ∷ [])) in
    kind_here front (k ++ rest) bytes 3 at e d ∙ truth_here (front ++ 3 ∷ []) rest bytes b (at + 1) (e ∙ sym (append_assoc front (3 ∷ []) (k ++ rest))) next

pairs_here : (front : List ℕ) (ps : Event) (bytes before : List ℕ) (at : ℕ) → bytes ≡ front ++ pairs_bytes ps → at ≡ length front → AllByRecursion IsPair ps
    → AllByRecursion (λ y. slice_cmp nat_cmp before y ≡ Less) (names ps) → Rise (names ps) → pairs_at bytes (length ps) at before ≡ Ok ps
unfolding pairs_at IsStrictlySortedBy
pairs_here front [] bytes before at e d each above rise =
    let all : at ≡ length bytes = d ∙ ap length (sym (append-nil front)) ∙ ap length (sym e) in
    rw (same at (length bytes) all) refl
pairs_here front (p ∷ ps) bytes before at e d each above rise =
    let head = length p.0 ∷ p.0 in
    let value = value_bytes p.1 in
    let rest = pairs_bytes ps in
    let apart : bytes ≡ front ++ (head ++ (value ++ rest)) = e ∙ ap (λ l. front ++ l) (append_assoc head value rest) in
    let place : at + 1 + length p.0 ≡ length (front ++ head) = omega (arith, length-append front head) in
    let next : at + 2 + length p.0 + value_size p.1 ≡ length (front ++ (head ++ value)) = omega (arith, length-append front (head ++ value), length-append head value, length-value_bytes p.1) in
    let name_is = name_here front p.0 (value ++ rest) bytes before at apart d each.0.0 above.0 in
    let value_is = value_here (front ++ head) rest bytes p.1 (at + 1 + length p.0) (apart ∙ sym (append_assoc front head (value ++ rest))) place each.0.1 in
    let rest_is = pairs_here (front ++ (head ++ value)) ps bytes p.0 (at + 2 + length p.0 + value_size p.1) (e ∙ sym (append_assoc front (head ++ value) rest)) next each.1 rise.0 rise.1 in
    rw (name_is, value_is, rest_is) refl

pub length-pairs_bytes : (ps : Event) → length (pairs_bytes ps) ≡ pairs_size ps
length-pairs_bytes [] = refl
length-pairs_bytes (p ∷ ps) =
    let head = length p.0 ∷ p.0 in
    omega (arith, length-append (head ++ value_bytes p.1) (pairs_bytes ps), length-append head (value_bytes p.1), length-value_bytes p.1, length-pairs_bytes ps)

above_none : (n : List ℕ) → 0 < length n → slice_cmp nat_cmp [] n ≡ Less
above_none [] h = absurd (omega arith)
above_none (x ∷ xs) h = refl

above_nothing : (ps : Event) → AllByRecursion IsPair ps → AllByRecursion (λ y. slice_cmp nat_cmp [] y ≡ Less) (names ps)
above_nothing [] h = tt
above_nothing (p ∷ ps) h = (above_none p.0 h.0.0.0, above_nothing ps h.1)

-- the bytes of an event decode to it
pub decodes_back : (e : Event) → IsEvent e → event_decoded (event_bytes e) ≡ Ok e
unfolding event_decoded
decodes_back e is =
    let bytes = event_bytes e in
    let short : length bytes ≤ 8192 = omega (arith, length-pairs_bytes e, is.short) in
    let count = byte_here [] (pairs_bytes e) bytes (length e) 0 refl refl in
    let pairs = pairs_here (length e ∷ []) e bytes [] 1 refl refl is.pairs.each (above_nothing e is.pairs.each) is.pairs.rise in
    rw (not_below 8192 (length bytes) short) (ap (λ r. r >>= pairs_of_count bytes) count ∙ rw (not_below 32 (length e) is.pairs.few) pairs)
